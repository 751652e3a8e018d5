use Rattle.std.proofs.Common.{rules}
use Rattle.driver.proofs.Saying.{greets}
use Rattle.driver.proofs.talk.greet.Goals as goal

pub returns : goal.returns
returns g c = greets g.H.Host.log g.H.Host.world _ _ _ c.desired.result c.prefix.ensures c.desired.ensures c.handshake.ensures (search rules) (search rules)
