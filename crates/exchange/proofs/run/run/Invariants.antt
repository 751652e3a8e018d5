use Rattle.host.specs.Talk.{sight, areas}
use Rattle.process.specs.Given.{have_room}
use Rattle.exchange.specs.Runs.{space}
use Rattle.exchange.proofs.Running.{Worked}
use Rattle.exchange.proofs.run.run.Given as goal

-- the calls up to this one are worked off
abbrev pub invariant-loop-i : goal.invariant-loop-i
invariant-loop-i g l =
    Worked g.H.Host.capacity (have_room l.initial.work l.initial.status) l.i l.initial.exchange l.exchange (sight (g.H.Host.log l.initial.host) (g.H.Host.world l.initial.host)) (areas l.initial.work l.initial.status)
    (space l.initial.rows l.initial.text) l.table.records.places (sight (g.H.Host.log l.host) (g.H.Host.world l.host)) (areas l.work l.status) (space l.rows l.text)
