-- What `{:02x}` writes of a byte is its two hexadecimal digits.
use Rattle.std.proofs.Common.{◌≡◌, ℕ, ◌-◌, ◌/◌, ◌%◌, ◌<◌, ◌^◌, false, [], ◌∷◌, Some, ap, ap₂, ◌∙◌, arith}
use Rattle.std.specs.Fmt.{digits, digits_output, format_spec, styled_digits_output, digit_glyph}
use Rattle.std.proofs.lemmas.Fmt.{hex_byte as two_glyphs}
use Rattle.text.specs.Hexadecimal.{nibble, hex_byte}

-- the digit that the library writes is the nibble
pub glyph : (d : ℕ) → digit_glyph false d ≡ nibble d
glyph d = grind arith

-- two of them, and no padding
pub two_digits : (d : _) (s : _) (b : ℕ) → b < 256 → digits_output d ≡ Some (digits 16 false b) → s ≡ format_spec 32 0 4 2 (2 ^ 64 - 1) → styled_digits_output d s ≡ Some (hex_byte b)
two_digits d s b lt e f =
    rw f (rw e (ap Some (two_glyphs false b lt ∙ ap₂ (λ (x y : ℕ). x ∷ y ∷ []) (glyph (b / 16)) (glyph (b % 16)))))
