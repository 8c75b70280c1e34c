use Rattle.std.proofs.Common.{◌-◌, ◌≤◌}
use Rattle.arrays.specs.Arrays.{array}
use Rattle.search.specs.Halving.{asked}
use Rattle.search.proofs.Turns.{Left}
use Rattle.search.proofs.binary.halve.Given as goal

abbrev pub invariant-loop-right : goal.invariant-loop-right
invariant-loop-right g l =
    (l.right ≤ (array l.items).count)
    × Left (asked g.K.Kind.width g.K.Kind.value (g.P.Probe.answers l.probe) (array l.items)) (array l.items).count l.left l.right

abbrev pub decreases-loop-right : goal.decreases-loop-right
decreases-loop-right g l = l.right - l.left
