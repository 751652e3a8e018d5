use Rattle.std.proofs.Common.{[], codes, refl}
use Rattle.mirror.proofs.Saying.{none_said, some_said, all_said}
use Rattle.mirror.specs.Memory.{waiting_in}
use Rattle.mirror.specs.Reflecting.{status_packets, writing_packets, no_blobs}
use Rattle.mirror.proofs.answer.Answer.say_no_blobs.Goals as goal

pub returns : goal.returns
returns c =
    all_said (some_said (status_packets (codes "success")) [] (some_said (writing_packets []) (status_packets (codes "success")) (none_said (waiting_in c.args.self.now) no_blobs) refl c.say_writing.ensures.says) refl c.say_status.ensures.says)
