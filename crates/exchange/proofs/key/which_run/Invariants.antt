use Rattle.std.proofs.Common.{◌≡◌, ℕ, [], map, take}
use Rattle.rules.specs.Key.{key}
use Rattle.exchange.specs.Watching.{running, watched_call}
use Rattle.exchange.proofs.key.which_run.Given as goal

abbrev pub invariant-loop-watched : goal.invariant-loop-watched
invariant-loop-watched l = (rows room : ℕ) → running l.runners ≡ key (map (watched_call rows room) (take l.watched-index l.fn.calls)) []
