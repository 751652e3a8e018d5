use Rattle.std.proofs.Common.{◌≡◌, ℕ, List, length}
use Rattle.host.specs.Worlds.{waits}
use Rattle.host.specs.Peers.{seen, SameLent}
use Rattle.host.specs.Talk.{areas}
use Rattle.requests.proofs.MetaLoop.{MetaLeft}
use Rattle.requests.proofs.inner.read_meta.Given as goal

abbrev pub invariant-loop-rows : goal.invariant-loop-rows
invariant-loop-rows g l =
    let log = g.H.Host.log in
    let world = g.H.Host.world in
    SameLent l.initial.peer l.peer × (l.rows.rows.ghost_name ≡ l.initial.rows.rows.ghost_name)
    × ((status : List ℕ)
    → MetaLeft l.command l.initial.rows.rows.now l.initial.text (seen log world l.peer) l.initial.peer.process (areas l.peer.work.now status) l.rows.rows.now l.rows.count l.text l.at
    (seen log world l.initial.peer) (areas l.initial.peer.work.now status))

abbrev pub decreases-loop-rows : goal.decreases-loop-rows
decreases-loop-rows g l = length (waits (g.H.Host.world l.peer.host.now) l.initial.peer.process)
