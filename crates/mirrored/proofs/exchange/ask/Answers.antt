use Rattle.std.proofs.Common.{refl}
use Rattle.mirrored.proofs.exchange.ask.Goals as goal

pub returns : goal.returns
returns c = c.ask_with.ensures c.args.pathname.now refl
