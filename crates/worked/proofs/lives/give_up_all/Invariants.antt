use Rattle.std.specs.Prelude.{length}
use Rattle.exchange.specs.Opens.{open_processes}
use Rattle.worked.proofs.lives.give_up_all.Given as goal

abbrev pub decreases-loop-token : goal.decreases-loop-token
decreases-loop-token g l = length (open_processes l.open)
