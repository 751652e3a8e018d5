-- What the exit of a `?` answers.
use Rattle.std.proofs.Common.{◌≡◌, Err, Result, ap, ◌∙◌}
use Rattle.std.specs.Result.{IsErrAnd}
use Rattle.std.proofs.lemmas.Result.{err_from_is_err_and}

-- the error that its conversion gives
pub told_err : {T E : Type 0} {e : E} (r : Result T E) → IsErrAnd r (λ x. x ≡ e) → r ≡ Err e
told_err r h = let x = err_from_is_err_and r h in x.1 ∙ ap (λ y. Err y) x.2
