-- Boundaries in a font: OpenType pads tables to four bytes, and some parts of tables to two.
use Rattle.std.specs.Prelude.{◌≡◌, ℕ, ◌+◌, ◌-◌, ◌%◌, ◌^◌, ◌≤◌}

-- The largest usize.
abbrev pub largest : ℕ
largest = 2 ^ 64 - 1

-- n and as much as it lacks of a multiple of k.
abbrev pub round_up : ℕ → ℕ → ℕ
round_up k n = n + (k - n % k) % k

-- p is the least multiple of k that is not below n.
pub record LeastMultiple (k n p : ℕ) : Type 0 where
  pub multiple : p % k ≡ 0
  pub reaches : n ≤ p
  pub least : (m : ℕ) → m % k ≡ 0 → n ≤ m → p ≤ m
