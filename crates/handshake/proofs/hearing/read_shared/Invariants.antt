use Rattle.std.proofs.Common.{length}
use Rattle.host.specs.Worlds.{waits}
use Rattle.handshake.specs.Places.{AllWithin}
use Rattle.handshake.specs.Sharing.{places_of}
use Rattle.handshake.proofs.SharedLoop.{LeftShared}
use Rattle.handshake.proofs.hearing.read_shared.Given as goal

abbrev pub invariant-loop-n : goal.invariant-loop-n
invariant-loop-n g l = LeftShared g.H.Host.log g.H.Host.world l.names (places_of l.shared) l.peer l.initial.peer × AllWithin (length l.names) (places_of l.shared)

abbrev pub decreases-loop-n : goal.decreases-loop-n
decreases-loop-n g l = length (waits (g.H.Host.world l.peer.host.now) l.initial.peer.process)
