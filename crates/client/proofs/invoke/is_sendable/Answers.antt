use Rattle.client.proofs.Pairs.{pair_fits}
use Rattle.client.proofs.invoke.is_sendable.Goals as goal

pub returns : goal.returns
returns c = pair_fits c.args.key.now c.args.value.now
