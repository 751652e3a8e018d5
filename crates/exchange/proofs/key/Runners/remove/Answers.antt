use Rattle.std.proofs.Common.{rules, tests, eqb, not}
use Rattle.std.proofs.lemmas.Fn.{filter_same}
use Rattle.exchange.proofs.Runners.{filter_is}
use Rattle.exchange.proofs.key.Runners.remove.Goals as goal

pub returns-clause-left : goal.returns-clause-left
returns-clause-left c =
    filter_is (λ r. not (eqb r.process c.args.process)) c.args.self.now.all.items c.retain.new.self.items
    (filter_same _ (λ r. not (eqb r.process c.args.process)) _ (λ x b f' k. search (rules, tests)) _ _ c.retain.ensures.filtered)
