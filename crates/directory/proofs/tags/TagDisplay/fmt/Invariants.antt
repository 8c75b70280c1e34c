use Rattle.std.proofs.Common.{take}
use Rattle.std.specs.Fmt.{HasWritten, IsPlainFormatter}
use Rattle.text.specs.Hexadecimal.{each}
use Rattle.directory.specs.Listing.{tag_byte}
use Rattle.directory.proofs.tags.TagDisplay.fmt.Given as goal

abbrev pub invariant-loop-b : goal.invariant-loop-b
invariant-loop-b g l = IsPlainFormatter l.initial.f → HasWritten g.W.Write.write_str_gives l.initial.f (each tag_byte (take l.b-index l.b-items)) l.f
