-- What was written behind the end grew each string by it.
use Rattle.std.proofs.Common.{rules}
use Rattle.buffer.proofs.Memory.{Grown-appended}
use Rattle.buffer.proofs.WriteBuffer.append.Goals as goal

pub returns-clause-grown : goal.returns-clause-grown
returns-clause-grown c = Grown-appended c.args.self.now _ c.args.data.now c.requires.space (search rules)
