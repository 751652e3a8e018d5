use Rattle.rules.proofs.Standings.{rules_stand, books_stand}
use Rattle.rules.proofs.stands.rules_stand.Goals as goal

pub returns : goal.returns
returns c = record { rules = rules_stand; books = books_stand }
