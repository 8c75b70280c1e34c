use Rattle.std.proofs.Common.{◌≡◌, take}
use Rattle.register.specs.Rows.{tallied}
use Rattle.register.proofs.register.rows.count.Given as goal

abbrev pub invariant-loop-row : goal.invariant-loop-row
invariant-loop-row l = l.tally ≡ tallied (take l.row-index l.rows)
