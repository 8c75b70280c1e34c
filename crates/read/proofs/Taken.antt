-- What is taken of a context is as long as was asked.
use Rattle.std.proofs.Common.{◌≡◌, ℕ, false, ltb, length, arith, length-drop, length-take, ltb-false}
use Rattle.read.specs.Ctxts.{Ctxt, left, next}

pub length-next : (c : Ctxt) (n : ℕ) → ltb (left c) n ≡ false → length (next c n) ≡ n
length-next c n h = simp (length-take, length-drop) (omega (arith, ltb-false (left c) n h))
