use Rattle.std.proofs.Common.{refl, arith}
use Rattle.mirror.proofs.Saying.{none_said, one_said, all_said, writing_none, writing_some}
use Rattle.mirror.specs.Memory.{waiting_in}
use Rattle.mirror.specs.Reflecting.{writing_packets}
use Rattle.std.proofs.lemmas.Bool.Decides.{nat_tests}
use Rattle.mirror.proofs.answer.Answer.say_writing.Goals as goal

pub returns-then-is_empty-clause-says : goal.returns-then-is_empty-clause-says
returns-then-is_empty-clause-says c =
    all_said (one_said (none_said (waiting_in c.args.self.now) (writing_packets c.args.bytes.now)) (writing_none c.args.bytes.now (grind (arith, nat_tests))) c.say_flush.ensures.says)

pub returns-clause-says : goal.returns-clause-says
returns-clause-says c =
    all_said (one_said (one_said (none_said (waiting_in c.args.self.now) (writing_packets c.args.bytes.now)) (writing_some c.args.bytes.now (grind (arith, nat_tests)) (omega arith)) c.say.ensures.says) refl c.say_flush-2.ensures.says)
