use Rattle.std.proofs.Common.{sym, ◌∙◌, arith}
use Rattle.client.proofs.Keeps.{path_stored, path_too_long, path_without_row}
use Rattle.client.proofs.paths.store.Goals as goal

pub returns-then-len-text-clause-keeps : goal.returns-then-len-text-clause-keeps
returns-then-len-text-clause-keeps c = path_too_long c.args.at _ _ _ _ (omega arith)

pub returns-in_err-ok-clause-keeps : goal.returns-in_err-ok-clause-keeps
returns-in_err-ok-clause-keeps c = path_without_row c.args.at _ _ _ _ _ _ _ _ c.from_residual.ensures c.push.ensures.meaning (sym c.ok.ensures.value ∙ c.in_err-ok.was)

pub returns-clause-keeps : goal.returns-clause-keeps
returns-clause-keeps c =
    path_stored c.args.at _ _ c.args.text.now c.args.path.now _ _ _ _ _ c.copy_from_slice.new.self
    (omega arith) c.push.ensures.value (sym c.ok.ensures.value ∙ c.in_ok-ok.was) (omega arith) c.copy_from_slice.ensures.after
