use Rattle.host.proofs.Exits.{told_err}
use Rattle.host.proofs.Wants.{text_fault, text_none, text_bad, text_works}
use Rattle.host.proofs.peer.Peer.read_text.Goals as goal

pub returns-in_err-n-clause-goes : goal.returns-in_err-n-clause-goes
returns-in_err-n-clause-goes g c =
    let f = c.in_err-n.ensures.goes in
    record { lent = f.lent; talks = text_fault _ _ _ _ _ _ _ f.talks (told_err c.from_residual.result c.from_residual.ensures.1) }

pub returns-in_default-clause-goes : goal.returns-in_default-clause-goes
returns-in_default-clause-goes g c =
    let f = c.in_ok-n.ensures.goes in
    record { lent = f.lent; talks = text_none _ _ _ _ _ _ f.talks c.in_default.is }

pub returns-in_err-text-clause-goes : goal.returns-in_err-text-clause-goes
returns-in_err-text-clause-goes g c =
    let f = c.in_ok-n.ensures.goes in
    record { lent = f.lent; talks = text_bad _ _ _ _ _ _ f.talks _ c.in-Some.is _ c.front.ensures _ _ c.in_err-text.ensures.value (told_err c.from_residual-in_err-text.result c.from_residual-in_err-text.ensures.1) }

pub returns-clause-goes : goal.returns-clause-goes
returns-clause-goes g c =
    let f = c.in_ok-n.ensures.goes in
    record { lent = f.lent; talks = text_works _ _ _ _ _ _ f.talks _ c.in-Some.is _ c.front.ensures _ c.in_ok-text.ensures.law c.in_ok-text.ensures.value }
