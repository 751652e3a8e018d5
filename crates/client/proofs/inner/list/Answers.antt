use Rattle.std.proofs.Common.{refl}
use Rattle.host.proofs.Exits.{told_err}
use Rattle.host.proofs.Peering.{same_then}
use Rattle.process.proofs.Peering.{later_with}
use Rattle.client.proofs.ListCalls.{later_paths, list_refused, list_lost, list_untold, list_told, list_full}
use Rattle.client.proofs.inner.list.Goals as goal

pub returns-in_err-ask_paths : goal.returns-in_err-ask_paths
returns-in_err-ask_paths g c =
    let s = c.in_err-ask_paths.ensures in
    record { lent = s.lent; same_area = refl; lists = list_refused _ _ _ _ _ _ _ _ _ (s.talks c.args.status.now.bytes.now) (told_err c.from_residual.result c.from_residual.ensures.1) }

pub returns-in_err-kept : goal.returns-in_err-kept
returns-in_err-kept g c =
    let s = c.in_ok-ask_paths.ensures in
    let q = c.in_err-kept.ensures in
    let status = c.args.status.now.bytes.now in
    record {
      lent = same_then s.lent q.lent;
      same_area = refl;
      lists = list_lost _ _ _ _ _ _ _ _ (s.talks status) _ _ _ _ _ _ (later_paths s.lent (q.reads status)) (told_err c.from_residual-in_err-kept.result c.from_residual-in_err-kept.ensures.1);
    }

pub returns-in_err-told-clause-lists : goal.returns-in_err-told-clause-lists
returns-in_err-told-clause-lists g c =
    let s = c.in_ok-ask_paths.ensures in
    let q = c.in_ok-kept.ensures in
    let status = c.args.status.now.bytes.now in
    let lent = same_then s.lent q.lent in
    list_untold _ _ _ _ _ _ _ _ (s.talks status) _ _ _ _ _ _ (later_paths s.lent (q.reads status)) _ _ _ _ (later_with lent c.in_err-told.ensures).0 (told_err c.from_residual-in_err-told.result c.from_residual-in_err-told.ensures.1)

pub returns-in-Some-clause-lists : goal.returns-in-Some-clause-lists
returns-in-Some-clause-lists g c =
    let s = c.in_ok-ask_paths.ensures in
    let q = c.in_ok-kept.ensures in
    let status = c.args.status.now.bytes.now in
    let lent = same_then s.lent q.lent in
    list_told _ _ _ _ _ _ _ _ (s.talks status) _ _ _ _ _ _ (later_paths s.lent (q.reads status)) _ _ _ _ (later_with lent c.in_ok-told.ensures).0 c.as_first.ensures _ c.in-Some.is

pub returns-in-None-clause-lists : goal.returns-in-None-clause-lists
returns-in-None-clause-lists g c =
    let s = c.in_ok-ask_paths.ensures in
    let q = c.in_ok-kept.ensures in
    let status = c.args.status.now.bytes.now in
    let lent = same_then s.lent q.lent in
    list_full _ _ _ _ _ _ _ _ (s.talks status) _ _ _ _ _ _ (later_paths s.lent (q.reads status)) _ _ _ _ (later_with lent c.in_ok-told.ensures).0 c.as_first.ensures c.in-None.is
