use Rattle.std.proofs.Common.{[], ◌∷◌, ◌++◌, map, drop}
use Rattle.packetline.specs.Packets.{flush}
use Rattle.host.specs.Talk.{send_all}
use Rattle.host.proofs.Peering.{OnTheWay}
use Rattle.handshake.specs.Sharing.{places_of}
use Rattle.handshake.specs.Servers.{shared_line, shares}
use Rattle.handshake.proofs.hearing.send_shares.Given as goal

abbrev pub invariant-loop-k : goal.invariant-loop-k
invariant-loop-k g l =
    OnTheWay g.H.Host.log g.H.Host.world (send_all (map (shared_line l.names) (drop l.k-index (places_of l.shared)) ++ flush ∷ [])) l.peer (send_all (shares l.names (places_of l.shared))) l.initial.peer
