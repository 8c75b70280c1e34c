-- Bytes in hexadecimal, as ASCII text.
use Rattle.std.specs.Prelude.{ℕ, ◌+◌, ◌-◌, ◌/◌, ◌%◌, cond, List, [], ◌∷◌, ◌++◌, nat_lt}

-- The digit of a number below 16: 0 to 9, then a to f.
abbrev pub nibble : ℕ → ℕ
nibble n = cond (nat_lt n 10) (48 + n) (97 + (n - 10))

-- The two digits of a byte.
abbrev pub hex_byte : ℕ → List ℕ
hex_byte b = nibble (b / 16) ∷ nibble (b % 16) ∷ []

-- The text that f makes of each byte, one after the other.
abbrev pub each : (ℕ → List ℕ) → List ℕ → List ℕ
each f [] = []
each f (b ∷ bs) = f b ++ each f bs

-- The digits of bytes.
abbrev pub hex : List ℕ → List ℕ
hex bs = each hex_byte bs
