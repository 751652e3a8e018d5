use Rattle.std.proofs.Common.{arith}
use Rattle.process.proofs.Laid.{name_laid}
use Rattle.process.proofs.area.StatusArea.lay.Goals as goal

pub returns-clause-laid : goal.returns-clause-laid
returns-clause-laid c = name_laid c.args.name.now c.args.self.now.bytes.now c.copy_from_slice.new.self c.min-n.result (omega arith) c.copy_from_slice.ensures.after
