use Rattle.std.proofs.Common.{◌≡◌, ◌++◌}
use Rattle.register.specs.Rows.{in_a_row}
use Rattle.register.proofs.register.Register.add_all.Given as goal

abbrev pub invariant-loop-i : goal.invariant-loop-i
invariant-loop-i l = l.self ≡ l.initial.self ++ in_a_row l.places.offset l.places.length l.i
