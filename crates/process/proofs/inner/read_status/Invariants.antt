use Rattle.std.proofs.Common.{◌≡◌, List, length}
use Rattle.host.specs.Worlds.{waits}
use Rattle.host.specs.Peers.{seen, SameLent}
use Rattle.host.specs.Talk.{Event, areas, read_text}
use Rattle.process.specs.Statuses.{read_status, status_step}
use Rattle.process.proofs.Gathers.{Left}
use Rattle.process.proofs.inner.read_status.Given as goal

abbrev pub invariant-loop-n : goal.invariant-loop-n
invariant-loop-n g l =
    let log = g.H.Host.log in
    let world = g.H.Host.world in
    SameLent l.initial.peer l.peer × (l.status.bytes.ghost_name ≡ l.initial.status.bytes.ghost_name)
    × ((es : List Event)
    × Left read_text status_step l.told es (seen log world l.peer) l.initial.peer.process (areas l.peer.work.now l.status.bytes.now)
    read_status (seen log world l.initial.peer) (areas l.initial.peer.work.now l.initial.status.bytes.now))

abbrev pub decreases-loop-n : goal.decreases-loop-n
decreases-loop-n g l = length (waits (g.H.Host.world l.peer.host.now) l.initial.peer.process)
