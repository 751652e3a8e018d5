use Rattle.std.proofs.Common.{[], ◌∷◌, ◌++◌, map, drop}
use Rattle.packetline.specs.Packets.{flush}
use Rattle.host.specs.Talk.{send_all}
use Rattle.host.proofs.Peering.{OnTheWay}
use Rattle.handshake.specs.Judged.{capability_line}
use Rattle.handshake.specs.Handshakes.{desired}
use Rattle.handshake.proofs.parts.send_desired.Given as goal

abbrev pub invariant-loop-name : goal.invariant-loop-name
invariant-loop-name g l =
    OnTheWay g.H.Host.log g.H.Host.world (send_all (map capability_line (drop l.name-index l.names) ++ flush ∷ [])) l.peer (send_all (desired l.names)) l.initial.peer
