-- What `{:08x}` writes of a number of 32 bits: the two digits of each of its four bytes.
use Rattle.std.proofs.Common.{◌≡◌, ℕ, zero, suc, ◌+◌, ◌-◌, ◌/◌, ◌%◌, ◌<◌, ◌^◌, Bool, true, false, cond, List, [], ◌∷◌, ◌++◌, length, Some, sym, refl, ap, ap₂, ◌∙◌, arith, replicate, append-nil, append_assoc, add-one, eqb}
use Rattle.std.proofs.lemmas.Bool.{eqb-true, eqb-false}
use Rattle.std.proofs.lemmas.List.{replicate_more}
use Rattle.std.specs.Fmt.{digits, digits_onto, digits_output, format_spec, styled_digits_output, digit_glyph, padded_integral, char_count}
use Rattle.opentype.specs.Numbers.{big_endian}
use Rattle.text.specs.Hexadecimal.{nibble, hex}
use Rattle.text.proofs.Digits.{glyph}
use Rattle.directory.specs.Listing.{hex_number_of}

-- the last w digits of n as f writes them, before the text ds
abbrev fixed : (ℕ → ℕ) → ℕ → ℕ → List ℕ → List ℕ
fixed f zero n ds = ds
fixed f (suc w) n ds = fixed f w (n / 16) (f (n % 16) ∷ ds)

-- n has at most w digits
abbrev Short : ℕ → ℕ → Type 0
Short zero n = n ≡ 0
Short (suc w) n = Short w (n / 16)

-- the digits of four bytes are the last eight digits of the number
four_bytes : (n : ℕ) → n < 2 ^ 32 → hex (big_endian 4 n) ≡ fixed nibble 8 n []
four_bytes n h =
    let a : n / 16777216 % 256 / 16 ≡ n / 16 / 16 / 16 / 16 / 16 / 16 / 16 % 16 = omega arith in
    let b : n / 16777216 % 256 % 16 ≡ n / 16 / 16 / 16 / 16 / 16 / 16 % 16 = omega arith in
    let c : n / 65536 % 256 / 16 ≡ n / 16 / 16 / 16 / 16 / 16 % 16 = omega arith in
    let d : n / 65536 % 256 % 16 ≡ n / 16 / 16 / 16 / 16 % 16 = omega arith in
    let e : n / 256 % 256 / 16 ≡ n / 16 / 16 / 16 % 16 = omega arith in
    let f : n / 256 % 256 % 16 ≡ n / 16 / 16 % 16 = omega arith in
    let g : n / 1 % 256 / 16 ≡ n / 16 % 16 = omega arith in
    let k : n / 1 % 256 % 16 ≡ n % 16 = omega arith in
    λ i. nibble (a i) ∷ nibble (b i) ∷ nibble (c i) ∷ nibble (d i) ∷ nibble (e i) ∷ nibble (f i) ∷ nibble (g i) ∷ nibble (k i) ∷ []

-- zeros are the last digits of 0
zeros : (w : ℕ) (ds : List ℕ) → replicate w 48 ++ ds ≡ fixed (digit_glyph false) w 0 ds
zeros zero ds = refl
zeros (suc w) ds =
    ap (λ (t : List ℕ). t ++ ds) (ap (λ (k : ℕ). replicate k 48) (sym (add-one w)) ∙ sym (replicate_more w 48))
    ∙ append_assoc (replicate w 48) (48 ∷ []) ds
    ∙ zeros w (48 ∷ ds)

-- the text t, with zeros before it up to w digits, is the last w digits of n and then ds
abbrev Padded : ℕ → ℕ → List ℕ → List ℕ → Type 0
Padded w n ds t = replicate (w + length ds - length t) 48 ++ t ≡ fixed (digit_glyph false) w n ds

-- digits_onto writes the last digit, and goes on only if something is left
either : (P : List ℕ → Type 0) (k n : ℕ) (ds : List ℕ)
    → (n / 16 ≡ 0 → P (digit_glyph false (n % 16) ∷ ds))
    → ((n / 16 ≡ 0 → ⊥) → P (digits_onto k 16 false (n / 16) (digit_glyph false (n % 16) ∷ ds)))
    → P (digits_onto (suc k) 16 false n ds)
either P k n ds z s = by (eqb (n / 16) 0) refl
  where
    by : (b : Bool) → eqb (n / 16) 0 ≡ b → P (cond b (digit_glyph false (n % 16) ∷ ds) (digits_onto k 16 false (n / 16) (digit_glyph false (n % 16) ∷ ds)))
    by true e = z (eqb-true (n / 16) 0 e)
    by false e = s (eqb-false (n / 16) 0 e)

-- the last digit that is written
last : (w n : ℕ) (ds : List ℕ) → n / 16 ≡ 0 → Padded (suc w) n ds (digit_glyph false (n % 16) ∷ ds)
last w n ds z =
    let m : suc w + length ds - suc (length ds) ≡ w = omega arith in
    let g = digit_glyph false (n % 16) ∷ ds in
    ap (λ (k : ℕ). replicate k 48 ++ g) m ∙ zeros w g ∙ ap (λ (k : ℕ). fixed (digit_glyph false) w k g) (sym z)

-- a digit with others before it
more : (w n : ℕ) (ds t : List ℕ) → Padded w (n / 16) (digit_glyph false (n % 16) ∷ ds) t → Padded (suc w) n ds t
more w n ds t h = let m : suc w + length ds - length t ≡ w + suc (length ds) - length t = omega arith in ap (λ (k : ℕ). replicate k 48 ++ t) m ∙ h

-- with zeros before them, the digits of a number that has at most w digits are its last w digits
spelled : (k w n : ℕ) (ds : List ℕ) → w < k → Short (suc w) n → Padded (suc w) n ds (digits_onto k 16 false n ds)
spelled zero w n ds q r = Prim.absurd (omega arith)
spelled (suc k) zero n ds q r = either (Padded 1 n ds) k n ds (last 0 n ds) (λ no. Prim.absurd (no r))
spelled (suc k) (suc w) n ds q r =
    either (Padded (suc (suc w)) n ds) k n ds (last (suc w) n ds) (λ no. more (suc w) n ds _ (spelled k w (n / 16) (digit_glyph false (n % 16) ∷ ds) (omega arith) r))

-- what a width of 8 and the flag `0` put before a number
padding : (t : List ℕ) → padded_integral (format_spec 32 0 4 8 (2 ^ 64 - 1)) false [] t ≡ replicate (8 - length t) 48 ++ t
unfolding padded_integral char_count
padding t =
    let m : 8 - length t - 0 - 0 ≡ 8 - length t = omega arith in
    ap₂ (λ (k : ℕ) (u : List ℕ). replicate k 48 ++ u) m (append-nil t)

-- with zeros before them, a number's digits are eight
eight : (n : ℕ) → n < 2 ^ 32 → padded_integral (format_spec 32 0 4 8 (2 ^ 64 - 1)) false [] (digits 16 false n) ≡ hex_number_of n
unfolding digits hex_number_of
eight n h = padding (digits 16 false n) ∙ spelled 64 7 n [] (omega arith) (omega arith) ∙ (λ i. fixed (λ d. glyph d i) 8 n []) ∙ sym (four_bytes n h)

-- and that is what the format writes
pub eight_digits : (d : _) (s : _) (n : ℕ) → n < 2 ^ 32 → digits_output d ≡ Some (digits 16 false n) → s ≡ format_spec 32 0 4 8 (2 ^ 64 - 1) → styled_digits_output d s ≡ Some (hex_number_of n)
eight_digits d s n h e f = rw f (rw e (ap Some (eight n h)))
