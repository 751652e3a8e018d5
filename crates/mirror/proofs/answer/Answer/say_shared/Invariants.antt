use Rattle.std.proofs.Common.{◌++◌}
use Rattle.packetline.specs.Packets.{packets}
use Rattle.handshake.specs.Sharing.{places_of}
use Rattle.handshake.specs.Servers.{shares}
use Rattle.mirror.specs.Memory.{waiting_in}
use Rattle.mirror.proofs.Saying.{SharesOn}
use Rattle.mirror.proofs.answer.Answer.say_shared.Given as goal

abbrev pub invariant-loop-k : goal.invariant-loop-k
invariant-loop-k l = SharesOn l.names (places_of l.shared) l.k-index (waiting_in l.self) l.self.to (waiting_in l.initial.self ++ packets (shares l.names (places_of l.shared)))
