-- What was laid over the written bytes was laid over each string.
use Rattle.buffer.proofs.Memory.{Overlaid-laid}
use Rattle.buffer.proofs.WriteBuffer.overlay.Goals as goal

pub returns-clause-overlaid : goal.returns-clause-overlaid
returns-clause-overlaid c = Overlaid-laid c.args.self.now _ c.args.offset c.args.data.now c.requires.within c.lay.ensures.after
