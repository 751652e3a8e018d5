use Rattle.std.proofs.Common.{arith}
use Rattle.mirror.proofs.Saying.{said_behind}
use Rattle.mirror.proofs.answer.Answer.say_flush.Goals as goal

pub returns-clause-says : goal.returns-clause-says
returns-clause-says c = said_behind c.args.self.now.bytes _ c.lay_flush.new.area c.args.self.now.from c.args.self.now.to _ c.lay_flush.result (omega arith) (omega arith) c.lay_flush.ensures.len c.lay_flush.ensures.laid
