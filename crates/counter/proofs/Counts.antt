-- A string of so many bytes, overlaid by bytes, is one again.
use Rattle.std.proofs.Common.{ℕ, ◌+◌, ◌<◌, ◌≤◌, List, length, take, arith, length-append, length-drop, length-take}
use Rattle.std.proofs.lemmas.List.Elements.{All-append, All-take, All-drop}
use Rattle.opentype.specs.Numbers.{Bytes}
use Rattle.context.specs.Contexts.{overlaid}
use Rattle.counter.specs.Counters.{Counted}

pub counted_overlaid : (n p : ℕ) (s put : List ℕ) → Bytes put → p + length put ≤ n → Counted n s → Counted n (overlaid s p put)
counted_overlaid n p s put b w h =
    let P : ℕ → Type 0 = λ b. b < 256 in
    record {
      long = let l = h.long in simp (length-append, length-take, length-drop) (omega arith);
      bytes = All-append P (take p s) _ (All-take P p s h.bytes) (All-append P put _ b (All-drop P (p + length put) s h.bytes));
    }
