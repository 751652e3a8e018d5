use Rattle.std.proofs.Common.{map, drop}
use Rattle.packetline.specs.Packets.{line_pkt}
use Rattle.host.specs.Talk.{send_all}
use Rattle.host.proofs.Peering.{OnTheWay}
use Rattle.host.proofs.peer.Peer.send_lines.Given as goal

abbrev pub invariant-loop-line : goal.invariant-loop-line
invariant-loop-line g l =
    OnTheWay g.H.Host.log g.H.Host.world (send_all (map (λ x. line_pkt x.now) (drop l.line-index l.lines))) l.self
    (send_all (map (λ x. line_pkt x.now) l.lines)) l.initial.self
