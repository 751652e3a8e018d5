use Rattle.rules.proofs.Keying.{key_stands}
use Rattle.rules.proofs.stands.key_stands.Goals as goal

pub returns : goal.returns
returns c = key_stands
