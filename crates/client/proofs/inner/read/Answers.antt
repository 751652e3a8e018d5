use Rattle.std.proofs.Common.{◌≤◌, IfSome, refl, subst}
use Rattle.host.proofs.Exits.{told_err}
use Rattle.host.proofs.Peering.{same_then}
use Rattle.process.proofs.Peering.{later_with}
use Rattle.client.proofs.Pieces.{piece_fault, piece_payload, piece_untold, piece_final}
use Rattle.client.proofs.inner.read.Goals as goal

pub returns-in_err-n-clause-goes : goal.returns-in_err-n-clause-goes
returns-in_err-n-clause-goes g c =
    let s = c.in_err-n.ensures.goes in
    record { lent = s.lent; same_area = refl; talks = piece_fault _ _ _ _ _ _ _ _ s.talks (told_err c.from_residual.result c.from_residual.ensures.1) }

pub returns-in_err-read_status-in-None-clause-goes : goal.returns-in_err-read_status-in-None-clause-goes
returns-in_err-read_status-in-None-clause-goes g c =
    let s = c.in_ok-n.ensures.goes in
    let t = c.in_err-read_status-in-None.ensures in
    record {
      lent = same_then s.lent t.lent;
      same_area = t.same_area;
      talks = piece_untold _ _ _ _ _ _ _ s.talks c.in-None.is _ _ _ _ _ (later_with s.lent t) (told_err c.from_residual-in_err-read_status-in-None.result c.from_residual-in_err-read_status-in-None.ensures.1);
    }

pub returns-in-Some : goal.returns-in-Some
returns-in-Some g c =
    let s = c.in_ok-n.ensures.goes in
    record {
      bound = subst (λ o. IfSome o (λ n. n ≤ 65516)) c.in-Some.is c.in_ok-n.ensures.bound;
      goes = record { lent = s.lent; same_area = refl; talks = piece_payload _ _ _ _ _ _ _ s.talks _ c.in-Some.is };
    }

pub returns-in_ok-read_status-in-None-clause-goes : goal.returns-in_ok-read_status-in-None-clause-goes
returns-in_ok-read_status-in-None-clause-goes g c =
    let s = c.in_ok-n.ensures.goes in
    let t = c.in_ok-read_status-in-None.ensures in
    record {
      lent = same_then s.lent t.lent;
      same_area = t.same_area;
      talks = piece_final _ _ _ _ _ _ _ s.talks c.in-None.is _ _ _ _ (later_with s.lent t);
    }
