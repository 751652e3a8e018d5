use Rattle.std.proofs.Common.{rules, tests, ◌∙◌}
use Rattle.std.proofs.lemmas.Iterator.{YieldsList-from_slice}
use Rattle.std.proofs.lemmas.Iterator.Search.{position_from_yields_List}
use Rattle.scripts.specs.Rows.{place_of}
use Rattle.scripts.proofs.Scripted.{position_is}
use Rattle.scripts.proofs.script.first_of.Goals as goal

pub returns-clause-value : goal.returns-clause-value
returns-clause-value c =
    let p = place_of c.args.bytes.now c.args.command.now in
    position_from_yields_List p _ _ c.position.result c.position.ensures.ran (YieldsList-from_slice _ c.iter.ensures.rest) (λ x b q k. search (rules, tests))
    ∙ position_is p c.args.places.now
