-- The data is bytes, so each string of the count overlaid by it is one of the same count.
use Rattle.std.proofs.Common.{rules}
use Rattle.opentype.proofs.BigEndian.{Bytes-from_type}
use Rattle.counter.proofs.Counts.{counted_overlaid}
use Rattle.counter.proofs.WriteCounterWriteContext.write_at.Goals as goal

pub returns : goal.returns
returns c =
    record {
      answer = search rules;
      after = record { each = λ s h. counted_overlaid _ c.args.offset s c.args.data.now (Bytes-from_type c.args.data.now c.type_inv.data) (search rules) h; less = search rules; kept = tt };
    }
