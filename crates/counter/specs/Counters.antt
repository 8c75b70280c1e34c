-- The counter: a context that stands for every string of bytes of its count.
use Rattle.std.specs.Prelude.{◌≡◌, ℕ, ◌-◌, ◌<◌, List, length, replicate}
use Rattle.std.proofs.Common.{lit<}
use Rattle.std.proofs.lemmas.List.{length-replicate}
use Rattle.std.proofs.lemmas.List.Elements.{All-replicate}
use Rattle.opentype.specs.Numbers.{Bytes}
use Rattle.opentype.specs.Alignment.{largest}
use Rattle.context.specs.Contexts.{Context}

-- s is a string of n bytes.
pub record Counted (n : ℕ) (s : List ℕ) : Type 0 where
  pub long : length s ≡ n
  pub bytes : Bytes s

-- Zeros are bytes.
pub zeros_bytes : (n : ℕ) → Bytes (replicate n 0)
zeros_bytes n = All-replicate (λ b. b < 256) n 0 (lit< tt)

-- There is a string of n bytes.
pub some_counted : (n : ℕ) → (s : List ℕ) × Counted n s
some_counted n = (replicate n 0, record { long = length-replicate n 0; bytes = zeros_bytes n })

-- A counter, as its count, stands for every string of so many bytes, has the rest up to the largest usize as space, and keeps nothing.
abbrev pub counter_means : Context ℕ
counter_means = record {
  stands = Counted;
  written = λ n. n;
  space = λ n. largest - n;
  keeps = λ m n. Unit {0};
  some = some_counted;
  long = λ n s h. h.long;
  unmoved = λ n. tt;
  onward = λ a b c p q. tt;
}
