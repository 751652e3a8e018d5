use Rattle.std.proofs.Common.{arith}
use Rattle.mirror.proofs.Saying.{said_behind}
use Rattle.mirror.proofs.answer.Answer.say.Goals as goal

pub returns-clause-says : goal.returns-clause-says
returns-clause-says c = said_behind c.args.self.now.bytes _ c.lay_data.new.area c.args.self.now.from c.args.self.now.to _ c.lay_data.result (omega arith) (omega arith) c.lay_data.ensures.len c.lay_data.ensures.laid
