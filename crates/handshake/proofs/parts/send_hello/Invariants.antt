use Rattle.std.proofs.Common.{[], ◌∷◌, ◌++◌, map, drop}
use Rattle.packetline.specs.Packets.{flush}
use Rattle.host.specs.Talk.{send_all}
use Rattle.host.proofs.Peering.{OnTheWay}
use Rattle.handshake.specs.Judged.{version_line}
use Rattle.handshake.proofs.parts.send_hello.Given as goal

-- the lines of the versions, behind the welcome
abbrev pub invariant-loop-version : goal.invariant-loop-version
invariant-loop-version g l =
    OnTheWay g.H.Host.log g.H.Host.world (send_all (map version_line (drop l.version-index l.versions) ++ flush ∷ [])) l.peer
    (send_all (map version_line l.versions ++ flush ∷ [])) l.initial.peer
