use Rattle.std.proofs.Common.{length}
use Rattle.host.specs.Worlds.{waits}
use Rattle.handshake.proofs.NamesLoop.{LeftNames}
use Rattle.handshake.proofs.parts.read_names.Given as goal

abbrev pub invariant-loop-n : goal.invariant-loop-n
invariant-loop-n g l = LeftNames g.H.Host.log g.H.Host.world l.names l.named.mask l.peer l.initial.peer

abbrev pub decreases-loop-n : goal.decreases-loop-n
decreases-loop-n g l = length (waits (g.H.Host.world l.peer.host.now) l.initial.peer.process)
