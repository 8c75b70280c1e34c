-- A value that fits has as many bytes as the place is long, and they are read as the value, by its code too.
use Rattle.std.proofs.Common.{ap, rules}
use base.Stored.{Coded}
use Rattle.kinds.specs.Laws.{Lawful}
use Rattle.kinds.specs.declared.kind.Kind.{Ghosts}
use Rattle.runs.specs.Calls.{Kept, item}
use Rattle.writer.proofs.writer.Writer.fill.Goals as goal

item_kept : {K V : Type 0} (k : Ghosts K V) (c : Coded V) → Lawful k.width k.fitting k.bytes k.value → (v : V) → Kept (item k c v)
item_kept k c law v = record { sized = law.sized v; back = λ h. ap c.code (law.back v h) }

pub returns-in_err-row : goal.returns-in_err-row
returns-in_err-row g c = let kept = item_kept g.K.Kind g.row.K-HostType.coded g.met.K.Kind.lawful c.args.v in search rules

pub returns : goal.returns
returns g c = let kept = item_kept g.K.Kind g.row.K-HostType.coded g.met.K.Kind.lawful c.args.v in search rules
