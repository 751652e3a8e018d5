use Rattle.std.proofs.Common.{[], ◌∷◌, codes, refl}
use Rattle.rules.specs.Steps.{pair_line}
use Rattle.driver.proofs.Saying.{exchanged}
use Rattle.driver.proofs.talk.ask_again.Goals as goal

pub returns : goal.returns
returns g c =
    exchanged c.args.operation c.args.path.now [] c.as_bytes.result.now (pair_line (codes "pathname") c.args.path.now ∷ []) [] c.as_bytes.ensures refl c.invoke.ensures
