use Rattle.host.specs.Talk.{send_all}
use Rattle.host.proofs.Peering.{OnTheWay}
use Rattle.client.proofs.Pairs.{meta_from}
use Rattle.client.proofs.inner.send_request.Given as goal

-- the lines of metadata, behind the command's
abbrev pub invariant-loop-row : goal.invariant-loop-row
invariant-loop-row g l = OnTheWay g.H.Host.log g.H.Host.world (send_all (meta_from l.row-index l.meta)) l.peer (send_all (meta_from 0 l.meta)) l.initial.peer
