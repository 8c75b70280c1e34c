-- The laws of a kind.
use Rattle.std.specs.Prelude.{◌≡◌, ℕ, Bool, true, List, length}
use Rattle.opentype.specs.Numbers.{Bytes}

-- A data type's values and their bytes fit together.
pub record Lawful {V : Type 0} (width : ℕ) (fitting : V → Bool) (bytes : V → List ℕ) (value : List ℕ → V) : Type 0 where
  -- a value that fits has just `width` bytes ..
  pub sized : (v : V) → fitting v ≡ true → length (bytes v) ≡ width
  -- .. each of which is a byte
  pub small : (v : V) → fitting v ≡ true → Bytes (bytes v)
  -- reading them gives the value
  pub back : (v : V) → fitting v ≡ true → value (bytes v) ≡ v
  -- reading any `width` bytes gives a value that fits ..
  pub whole : (bs : List ℕ) → length bs ≡ width → Bytes bs → fitting (value bs) ≡ true
  -- .. and has those bytes
  pub again : (bs : List ℕ) → length bs ≡ width → Bytes bs → bytes (value bs) ≡ bs
