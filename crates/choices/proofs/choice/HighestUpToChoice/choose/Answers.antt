use Rattle.std.proofs.Common.{rules}
use Rattle.choices.proofs.Highest.{highest_is}
use Rattle.choices.proofs.choice.HighestUpToChoice.choose.Goals as goal

pub returns-clause-law : goal.returns-clause-law
returns-clause-law c = search (rules, highest_is)
