use Rattle.mirror.specs.Memory.{prefix_of}
use Rattle.mirror.proofs.Moving.{quiet_aloud, stands_so}
use Rattle.mirror.proofs.server.Server.after.Goals as goal

pub returns-in-Idle : goal.returns-in-Idle
returns-in-Idle c =
    stands_so (prefix_of c.args.house.now) c.args.house.now.names c.args.self.now _ _ _ _ _ c.in-Idle.is (quiet_aloud c.args.answer.now c.requires (c.hear_command.ensures (prefix_of c.args.house.now) c.args.house.now.names))

pub returns-in-Asking : goal.returns-in-Asking
returns-in-Asking c =
    stands_so (prefix_of c.args.house.now) c.args.house.now.names c.args.self.now _ _ _ _ _ c.in-Asking.is (c.hear_pair.ensures (prefix_of c.args.house.now) c.args.house.now.names)

pub returns-in-Hearing : goal.returns-in-Hearing
returns-in-Hearing c =
    stands_so (prefix_of c.args.house.now) c.args.house.now.names c.args.self.now _ _ _ _ _ c.in-Hearing.is (c.hear_content.ensures (prefix_of c.args.house.now) c.args.house.now.names)
