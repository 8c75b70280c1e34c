-- The number formats of the OpenType data types: unsigned and two's complement numbers of n bytes, the most significant byte first.
use Rattle.std.specs.Prelude.{ℕ, zero, suc, ◌+◌, ◌-◌, ◌*◌, ◌/◌, ◌%◌, ◌^◌, ◌<◌, Bool, cond, List, [], ◌∷◌, length, ℤ, pos, negsuc, nat_lt}
use Rattle.std.specs.List.{All}

-- Each number of the list is a byte.
abbrev pub Bytes : List ℕ → Type 0
Bytes bs = All (λ b. b < 256) bs

-- The n bytes of a number: the first is v / 256^(n-1) modulo 256, and the others are the n-1 bytes of v.
abbrev pub big_endian : ℕ → ℕ → List ℕ
big_endian zero v = []
big_endian (suc n) v = (v / 256 ^ n) % 256 ∷ big_endian n v

-- The number that bytes write: the first, times 256 for each byte behind it, and the number that those write.
abbrev pub number_of : List ℕ → ℕ
number_of [] = 0
number_of (b ∷ bs) = b * 256 ^ length bs + number_of bs

-- An unsigned number fits n bytes when it is below 256^n.
abbrev pub unsigned_fits : ℕ → ℕ → Bool
unsigned_fits n v = nat_lt v (256 ^ n)

-- A signed number fits n bytes from -(256^n / 2) to 256^n / 2 - 1. (`negsuc k` is -(k + 1).)
abbrev pub signed_fits : ℕ → ℤ → Bool
signed_fits n (pos v) = nat_lt v (256 ^ n / 2)
signed_fits n (negsuc k) = nat_lt k (256 ^ n / 2)

-- Two's complement in n bytes: a negative number is written as 256^n more.
abbrev pub complement : ℕ → ℤ → ℕ
complement n (pos v) = v
complement n (negsuc k) = 256 ^ n - (k + 1)

-- The signed number that u stands for in two's complement: from 256^n / 2 on, 256^n less.
abbrev pub signed : ℕ → ℕ → ℤ
signed n u = cond (nat_lt u (256 ^ n / 2)) (pos u) (negsuc (256 ^ n - (u + 1)))
