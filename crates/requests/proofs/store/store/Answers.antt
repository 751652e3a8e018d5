use Rattle.std.proofs.Common.{refl, sym, ◌∙◌, arith}
use Rattle.requests.proofs.Holding.{pair_stored, pair_too_long, pair_without_row}
use Rattle.requests.proofs.store.store.Goals as goal

pub returns-then-key-value-clause-keeps : goal.returns-then-key-value-clause-keeps
returns-then-key-value-clause-keeps c = pair_too_long c.args.at _ _ _ c.args.key.now c.args.value.now (omega arith)

pub returns-in_err-ok-clause-keeps : goal.returns-in_err-ok-clause-keeps
returns-in_err-ok-clause-keeps c = pair_without_row c.args.at _ _ _ c.args.key.now c.args.value.now _ _ _ _ c.from_residual.ensures c.push.ensures.meaning (sym c.ok.ensures.value ∙ c.in_err-ok.was)

pub returns-clause-keeps : goal.returns-clause-keeps
returns-clause-keeps c =
    pair_stored c.args.at _ _ c.args.text.now c.args.key.now c.args.value.now _ _ _ c.lay.new.text c.lay-2.new.text _ _
    c.lay.ensures c.lay-2.ensures (omega arith) c.push.ensures.value (sym c.ok.ensures.value ∙ c.in_ok-ok.was) refl
