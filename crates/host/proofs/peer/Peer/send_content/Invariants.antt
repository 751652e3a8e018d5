use Rattle.std.proofs.Common.{◌≡◌, map}
use Rattle.packetline.specs.Packets.{line}
use Rattle.host.specs.Parts.{parts}
use Rattle.host.specs.Talk.{send_all}
use Rattle.host.proofs.Peering.{OnTheWay}
use Rattle.host.proofs.peer.Peer.send_content.Given as goal

-- the parts of what the iterator has left are left to send
abbrev pub invariant-loop-part : goal.invariant-loop-part
invariant-loop-part g l =
    (l.part-iterator.size ≡ 65516)
    × OnTheWay g.H.Host.log g.H.Host.world (send_all (map line (parts l.part-iterator.rest.now))) l.self (send_all (map line (parts l.content))) l.initial.self
