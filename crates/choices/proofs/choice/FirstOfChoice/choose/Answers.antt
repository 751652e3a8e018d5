use Rattle.std.proofs.Common.{rules}
use Rattle.choices.proofs.Firsts.{first_is}
use Rattle.choices.proofs.choice.FirstOfChoice.choose.Goals as goal

pub returns-clause-law : goal.returns-clause-law
returns-clause-law c = search (rules, first_is)
