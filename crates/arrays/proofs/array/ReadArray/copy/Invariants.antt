use Rattle.std.proofs.Common.{◌≡◌, ◌+◌, ◌<◌, ◌≤◌, ◌^◌, ◌++◌, map, drop}
use Rattle.std.specs.List.{range_with_len}
use Rattle.arrays.specs.Arrays.{array, item_bytes}
use Rattle.arrays.specs.Cursors.{cursor}
use Rattle.arrays.proofs.Items.{given}
use Rattle.arrays.proofs.array.ReadArray.copy.Given as goal

abbrev pub invariant-loop-i : goal.invariant-loop-i
invariant-loop-i g l =
    (cursor l.v-iterator ≡ given (array l.self) l.i)
    × (l.i ≤ l.self.length)
    × (l.out ≡ map (λ i. g.K.Kind.value (item_bytes g.K.Kind.width (array l.self) i)) (range_with_len 0 l.i) ++ drop l.i l.initial.out)
    × (l.i + (goal.iterator-loop-i g).remaining l.v-iterator < 2 ^ 64)
