use Rattle.std.proofs.Common.{◌≡◌, ℕ, List, length}
use Rattle.host.specs.Worlds.{waits}
use Rattle.handshake.specs.Servers.{versions_step, read_versions, Holding}
use Rattle.process.proofs.Reading.{LeftLines}
use Rattle.handshake.proofs.VersionsLoop.{Offered}
use Rattle.handshake.proofs.hearing.read_versions.Given as goal

abbrev pub invariant-loop-n : goal.invariant-loop-n
invariant-loop-n g l =
    let space = l.initial.rows.rows.now in
    (l.rows.rows.ghost_name ≡ l.initial.rows.rows.ghost_name)
    × ((vs : List ℕ) × Holding space vs l.rows.rows.now l.rows.count
    × LeftLines g.H.Host.log g.H.Host.world (versions_step (length space)) (Offered (length space)) (read_versions (length space)) vs l.peer l.initial.peer)

abbrev pub decreases-loop-n : goal.decreases-loop-n
decreases-loop-n g l = length (waits (g.H.Host.world l.peer.host.now) l.initial.peer.process)
