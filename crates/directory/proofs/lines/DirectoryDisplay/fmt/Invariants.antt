use Rattle.std.proofs.Common.{◌≡◌, ◌≤◌}
use Rattle.std.specs.Fmt.{HasWritten, IsPlainFormatter}
use Rattle.arrays.specs.Arrays.{array}
use Rattle.directory.specs.Tables.{table_in}
use Rattle.directory.specs.Listing.{lines_of}
use Rattle.directory.proofs.lines.DirectoryDisplay.fmt.Given as goal

abbrev pub invariant-loop-table : goal.invariant-loop-table
invariant-loop-table g l =
    (l.table-iterator.directory.now ≡ l.self)
    × (l.table-iterator.index ≤ (array l.self.records).count)
    × (IsPlainFormatter l.initial.f → HasWritten g.W.Write.write_str_gives l.initial.f (lines_of (table_in (array l.self.records)) l.table-iterator.index) l.f)
