use Rattle.host.specs.Talk.{sight}
use Rattle.rules.proofs.Closing.{Closes}
use Rattle.driver.proofs.Closings.{first_held}
use Rattle.driver.proofs.state.State.close_all.Given as goal

-- the processes of the first places are closed
abbrev pub invariant-loop-place : goal.invariant-loop-place
invariant-loop-place g l = Closes (first_held l.place l.self.records.places) (sight (g.H.Host.log l.initial.host) (g.H.Host.world l.initial.host)) (sight (g.H.Host.log l.host) (g.H.Host.world l.host))
