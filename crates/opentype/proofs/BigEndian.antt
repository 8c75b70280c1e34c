-- The n bytes of a number and the number that bytes write undo one another, and they are the last of the
-- eight bytes that the library makes of a number of 64 bits. Stated once, over the width.
use Rattle.std.proofs.Common.{◌≡◌, ℕ, zero, suc, ◌+◌, ◌-◌, ◌*◌, ◌/◌, ◌%◌, ◌^◌, ◌<◌, ◌≤◌, List, [], ◌∷◌, ◌++◌, length, get_or, take, drop, replicate, sym, refl, ap, ◌∙◌, subst, ap₂, lt_of_lt_of_le, mod-lt, mul_assoc, div-lt_iff_lt-mul, add-mul, pow-suc, div-add-mod', zero-mul, mul-one, div-one, add-one, arith, length-drop, length-append, append-nil, drop_of_length-le, take_all}
use native.Mathlib.Nat.{pow-le-pow_right, pow-succ', pow-zero, div-div-eq-div-mul}
use mir.Val.{Fits}
use borrow.Rule.Slice.PartMut.{put_mid}
use lib.Arith.{digits_div, digits_mod}
use Rattle.std.specs.Int.{w8, w64, bytes_high_first, from_be_bytes, to_be_bytes}
use Rattle.std.specs.Int.Digits.{number_from_digits, number_from_digits_after}
use Rattle.std.proofs.lemmas.Int.Digits.{number_push, number_more, number_lt}
use Rattle.std.proofs.lemmas.List.Elements.{All-get_or, All-from_get_or, All-nil, All-cons, recursion_from_All}
use Rattle.std.proofs.lemmas.List.{take_more, take-replicate, length-replicate}
use Rattle.opentype.specs.Numbers.{Bytes, big_endian, number_of}

-- the shelf's number in base 256 is the number that bytes write
after_is : (n : ℕ) (bs : List ℕ) → number_from_digits_after 256 n bs ≡ n * 256 ^ length bs + number_of bs
after_is n [] = let e = mul-one n in omega arith
after_is n (b ∷ bs) =
    let p = 256 ^ length bs in
    let e : n * 256 ^ suc (length bs) ≡ n * 256 * p = ap (λ (x : ℕ). n * x) (pow-succ' 256 (length bs)) ∙ sym (mul_assoc n 256 p) in
    let f : (n * 256 + b) * p ≡ n * 256 * p + b * p = add-mul (n * 256) b p in
    after_is (n * 256 + b) bs ∙ omega arith

number_is : (bs : List ℕ) → number_from_digits 256 bs ≡ number_of bs
number_is bs = let e = zero-mul (256 ^ length bs) in after_is 0 bs ∙ omega arith

pub number_of_push : (bs : List ℕ) (b : ℕ) → number_of (bs ++ (b ∷ [])) ≡ number_of bs * 256 + b
number_of_push bs b =
    sym (number_is (bs ++ (b ∷ []))) ∙ number_push 256 bs b ∙ ap (λ (x : ℕ). x * 256 + b) (number_is bs)

pub number_of_more : (bs : List ℕ) (i : ℕ) → i < length bs → number_of (take (i + 1) bs) ≡ number_of (take i bs) * 256 + get_or bs i 0
number_of_more bs i h =
    sym (number_is (take (i + 1) bs)) ∙ number_more 256 bs i h ∙ ap (λ (x : ℕ). x * 256 + get_or bs i 0) (number_is (take i bs))

pub number_of_lt : (n : ℕ) (bs : List ℕ) → length bs ≡ n → Bytes bs → number_of bs < 256 ^ n
number_of_lt n bs long small =
    subst (λ (x : ℕ). x < 256 ^ n) (number_is bs) (subst (λ (k : ℕ). number_from_digits 256 bs < 256 ^ k) long (number_lt 256 bs (recursion_from_All (λ d. d < 256) bs small)))

-- the last byte is the remainder by 256
pub big_endian_push : (n v : ℕ) → big_endian (suc n) v ≡ big_endian n (v / 256) ++ (v % 256 ∷ [])
big_endian_push zero v = ap (λ (x : ℕ). x % 256 ∷ []) (div-one v)
big_endian_push (suc n) v =
    let e : v / 256 ^ suc n ≡ v / 256 / 256 ^ n = ap (λ (x : ℕ). v / x) (pow-succ' 256 n) ∙ sym (div-div-eq-div-mul v 256 (256 ^ n)) in
    ap₂ (λ (x : ℕ) (bs : List ℕ). x % 256 ∷ bs) e (big_endian_push n v)

pub length-big_endian : (n v : ℕ) → length (big_endian n v) ≡ n
length-big_endian zero v = refl
length-big_endian (suc n) v = ap suc (length-big_endian n v)

pub Bytes-big_endian : (n v : ℕ) → Bytes (big_endian n v)
Bytes-big_endian zero v = All-nil (λ d. d < 256)
Bytes-big_endian (suc n) v = All-cons (λ d. d < 256) _ _ (mod-lt (v / 256 ^ n) (omega arith)) (Bytes-big_endian n v)

-- byte i of n is the number divided by 256^(n-1-i), modulo 256
pub get_or-big_endian : (n v i : ℕ) → i < n → get_or (big_endian n v) i 0 ≡ (v / 256 ^ (n - 1 - i)) % 256
get_or-big_endian zero v i h = Prim.absurd (omega arith)
get_or-big_endian (suc n) v zero h = ap (λ (k : ℕ). (v / 256 ^ k) % 256) (omega arith)
get_or-big_endian (suc n) v (suc i) h =
    let e : n - 1 - i ≡ suc n - 1 - suc i = omega arith in
    get_or-big_endian n v i (omega arith) ∙ ap (λ (k : ℕ). (v / 256 ^ k) % 256) e

-- what fits is read back
pub number_of-big_endian : (n v : ℕ) → v < 256 ^ n → number_of (big_endian n v) ≡ v
number_of-big_endian zero v h = omega (arith, pow-zero 256)
number_of-big_endian (suc n) v h =
    let small : v / 256 < 256 ^ n = (div-lt_iff_lt-mul (omega arith)).1 (subst (λ (x : ℕ). v < x) (pow-suc 256 n) h) in
    ap number_of (big_endian_push n v) ∙ number_of_push (big_endian n (v / 256)) (v % 256) ∙ ap (λ (x : ℕ). x * 256 + v % 256) (number_of-big_endian n (v / 256) small) ∙ div-add-mod' v 256

big_endian_taken : (bs : List ℕ) → Bytes bs → (i : ℕ) → i ≤ length bs → big_endian i (number_of (take i bs)) ≡ take i bs
big_endian_taken bs small zero h = refl
big_endian_taken bs small (suc i) h =
    let lt : i < length bs = omega arith in
    let b : get_or bs i 0 < 256 = All-get_or (λ d. d < 256) bs i 0 lt small in
    let e : number_of (take (suc i) bs) ≡ number_of (take i bs) * 256 + get_or bs i 0 = ap (λ (k : ℕ). number_of (take k bs)) (sym (add-one i)) ∙ number_of_more bs i lt in
    ap (big_endian (suc i)) e
    ∙ big_endian_push i (number_of (take i bs) * 256 + get_or bs i 0)
    ∙ ap₂ (λ (x y : ℕ). big_endian i x ++ (y ∷ [])) (digits_div (number_of (take i bs)) b) (digits_mod (number_of (take i bs)) b)
    ∙ ap (λ (xs : List ℕ). xs ++ (get_or bs i 0 ∷ [])) (big_endian_taken bs small i (omega arith))
    ∙ sym (take_more bs i 0 lt)
    ∙ ap (λ (k : ℕ). take k bs) (add-one i)

-- what was read is written as the same bytes
pub big_endian-number_of : (n : ℕ) (bs : List ℕ) → length bs ≡ n → Bytes bs → big_endian n (number_of bs) ≡ bs
big_endian-number_of n bs long small =
    let all : take n bs ≡ bs = take_all n bs (omega arith) in
    ap (λ (xs : List ℕ). big_endian n (number_of xs)) (sym all) ∙ big_endian_taken bs small n (omega arith) ∙ all

-- a number of some width fits a wider one
pub small_below : (v i k : ℕ) → v < 256 ^ i → i ≤ k → v < 256 ^ k
small_below v i k h le = lt_of_lt_of_le h (pow-le-pow_right (omega arith) le)

-- the library's bytes of a number are these
pub bytes_high_first-big_endian : (n v : ℕ) → bytes_high_first n v ≡ big_endian n v
bytes_high_first-big_endian zero v = refl
bytes_high_first-big_endian (suc zero) v = ap (λ (x : ℕ). x % 256 ∷ []) (sym (div-one v))
bytes_high_first-big_endian (suc (suc n)) v = ap (λ (bs : List ℕ). (v / 256 ^ suc n) % 256 ∷ bs) (bytes_high_first-big_endian (suc n) v)

-- behind the first k of them are the bytes of the rest of the width
drop-big_endian : (k n m v : ℕ) → m ≡ k + n → drop k (big_endian m v) ≡ big_endian n v
drop-big_endian zero n m v e = ap (λ (x : ℕ). big_endian x v) (omega arith)
drop-big_endian (suc k) n zero v e = Prim.absurd (omega arith)
drop-big_endian (suc k) n (suc m) v e = drop-big_endian k n m v (omega arith)

-- the last n of the library's eight are the n bytes of the number
pub take-to_be_bytes : (n v : ℕ) → n ≤ 8 → take (8 - (8 - n)) (drop (8 - n) (to_be_bytes w64 v)) ≡ big_endian n v
take-to_be_bytes n v le =
    let last : drop (8 - n) (to_be_bytes w64 v) ≡ big_endian n v = ap (drop (8 - n)) (bytes_high_first-big_endian 8 v) ∙ drop-big_endian (8 - n) n 8 v (omega arith) in
    ap (take (8 - (8 - n))) last ∙ take_all (8 - (8 - n)) (big_endian n v) (simp length-big_endian (omega arith))

-- zeros in front change no number
pub number_of-zeros : (k : ℕ) (bs : List ℕ) → number_of (replicate k 0 ++ bs) ≡ number_of bs
number_of-zeros zero bs = refl
number_of-zeros (suc k) bs = let e = zero-mul (256 ^ length (replicate k 0 ++ bs)) in let r = number_of-zeros k bs in omega arith

-- the library reads eight bytes as the number that they write
pub from_be_bytes-number_of : (bs : List ℕ) → length bs ≡ 8 → from_be_bytes w64 bs ≡ number_of bs
from_be_bytes-number_of bs long =
    let more = λ (i : ℕ) (h : i < 8). number_of_more bs i (omega arith) in
    let whole : number_of (take 8 bs) ≡ number_of bs = ap number_of (take_all 8 bs (omega arith)) in
    omega (arith, more 0 (omega arith), more 1 (omega arith), more 2 (omega arith), more 3 (omega arith), more 4 (omega arith), more 5 (omega arith), more 6 (omega arith), more 7 (omega arith))

-- and so it reads fewer that were laid behind zeros
pub from_be_bytes-padded : (n : ℕ) (laid bs : List ℕ) → n ≤ 8 → laid ≡ bs → length bs ≡ n → from_be_bytes w64 (put_mid (8 - n) (8 - (8 - n)) (replicate 8 0) laid) ≡ number_of bs
from_be_bytes-padded n laid bs le same long =
    let front : take (8 - n) (replicate 8 0) ≡ replicate (8 - n) 0 = take-replicate (8 - n) 8 0 (omega arith) in
    let none : drop (8 - (8 - n)) (drop (8 - n) (replicate 8 0)) ≡ [] = drop_of_length-le (drop (8 - n) (replicate 8 0)) (simp length-drop (omega arith)) in
    let all : put_mid (8 - n) (8 - (8 - n)) (replicate 8 0) laid ≡ replicate (8 - n) 0 ++ laid = ap₂ (λ (a b : List ℕ). a ++ (laid ++ b)) front none ∙ ap (λ (b : List ℕ). replicate (8 - n) 0 ++ b) (append-nil laid) in
    from_be_bytes-number_of _ (ap length all ∙ simp (length-append, length-replicate) (omega (arith, ap length same))) ∙ ap number_of all ∙ number_of-zeros (8 - n) laid ∙ ap number_of same

-- what a slice holds is bytes
pub Bytes-from_type : (xs : List ℕ) → ((i : ℕ) → Fits w8 (get_or xs i 0)) → Bytes xs
Bytes-from_type xs h = All-from_get_or (λ d. d < 256) xs 0 (λ i lt. (h i).fits)
