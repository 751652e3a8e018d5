use Rattle.std.proofs.Common.{rules}
use Rattle.slices.proofs.Lawful.{name_from_words}
use Rattle.slices.proofs.name.Name.new.Goals as goal

pub invariant_of-result : goal.invariant_of-result
invariant_of-result c = search (rules, name_from_words c.is_lawful.result c.args.text.now c.is_lawful.ensures)
