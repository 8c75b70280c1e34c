-- What OpenType says of its number types, as statements about a kind's size, values and bytes.
use Rattle.std.specs.Prelude.{◌≡◌, ℕ, ◌-◌, ◌/◌, ◌%◌, ◌^◌, ◌<◌, true, List, length, ℤ, pos, slice_index}
use Rattle.opentype.specs.Numbers.{unsigned_fits, signed_fits, complement, signed}
use Rattle.kinds.specs.declared.kind.Kind as Kinds

-- These are the n bytes of u, the most significant first: byte i is u divided by 256^(n-1-i), modulo 256.
pub record InBytes (n u : ℕ) (bs : List ℕ) : Type 0 where
  pub long : length bs ≡ n
  pub byte : (i : ℕ) → i < n → slice_index bs i ≡ (u / 256 ^ (n - 1 - i)) % 256

-- A kind is the unsigned number of n bytes.
pub record IsUnsigned {K : Type 0} (n : ℕ) (k : Kinds.Ghosts K ℕ) (integer : ℕ → ℤ) : Type 0 where
  pub size : k.width ≡ n
  -- those below 256^n fit, and no others
  pub fits : (v : ℕ) → k.fitting v ≡ unsigned_fits n v
  -- a value's bytes are those of the number
  pub writes : (v : ℕ) → k.fitting v ≡ true → InBytes n v (k.bytes v)
  -- and a number's bytes are read as the number
  pub reads : (bs : List ℕ) (u : ℕ) → u < 256 ^ n → InBytes n u bs → k.value bs ≡ u
  -- the host value is the number
  pub number : (v : ℕ) → integer v ≡ pos v

-- A kind is the signed number of n bytes, in two's complement.
pub record IsSigned {K : Type 0} (n : ℕ) (k : Kinds.Ghosts K ℤ) (integer : ℤ → ℤ) : Type 0 where
  pub size : k.width ≡ n
  -- those from -(256^n / 2) to 256^n / 2 - 1 fit, and no others
  pub fits : (v : ℤ) → k.fitting v ≡ signed_fits n v
  -- a value's bytes are those of its two's complement
  pub writes : (v : ℤ) → k.fitting v ≡ true → InBytes n (complement n v) (k.bytes v)
  -- and the bytes of u are read as the signed number that u stands for
  pub reads : (bs : List ℕ) (u : ℕ) → u < 256 ^ n → InBytes n u bs → k.value bs ≡ signed n u
  -- the host value is the number
  pub number : (v : ℤ) → integer v ≡ v
