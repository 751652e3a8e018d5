use Rattle.std.proofs.Common.{rules, tests, eqb}
use Rattle.std.proofs.lemmas.Iterator.{YieldsList-from_slice}
use Rattle.std.proofs.lemmas.Iterator.Search.{any_from_yields_List}
use Rattle.exchange.proofs.Runners.{any_is}
use Rattle.exchange.proofs.key.Runners.contains.Goals as goal

pub returns : goal.returns
returns c =
    any_is (λ r. eqb r.process c.args.process) c.args.self.now.all.items c.any.result
    (any_from_yields_List (λ r. eqb r.process c.args.process) _ _ c.any.result c.any.ensures.ran (YieldsList-from_slice c.args.self.now.all.items (search rules)) (λ x b q k. search (rules, tests)))
