use Rattle.std.proofs.Common.{[], refl, ◌∙◌}
use Rattle.host.proofs.Exits.{told_err}
use Rattle.host.specs.Talk.{read_text}
use Rattle.host.proofs.Peering.{same_peer, same_then, later}
use Rattle.process.specs.Statuses.{status_step}
use Rattle.process.proofs.Gathers.{left_first, text_falls}
use Rattle.process.proofs.StatusLoop.{told_fault, told_flush, told_line}
use Rattle.process.proofs.inner.read_status.Goals as goal

pub loop-n-init : goal.loop-n-init
loop-n-init g c = (same_peer _, refl, ([], left_first read_text status_step _ _ _ _))

pub returns-in_err-n : goal.returns-in_err-n
returns-in_err-n g c =
    let i = c.loop-n.invariant in
    let s = c.in_err-n.ensures.goes in
    record {
      lent = same_then i.0 s.lent;
      same_area = i.1;
      talks = told_fault _ _ _ _ _ _ _ _ _ i.2.1 _ _ _ _ (later i.0 s) (told_err c.from_residual.result c.from_residual.ensures.1);
    }

pub loop-n-smaller : goal.loop-n-smaller
loop-n-smaller g c = text_falls (later c.loop-n.invariant.0 c.in_ok-n.ensures.goes c.loop-n.status.bytes.now)

pub loop-n-preserved : goal.loop-n-preserved
loop-n-preserved g c =
    let i = c.loop-n.invariant in
    let s = c.in_ok-n.ensures.goes in
    let n = c.note-told.ensures in
    (same_then i.0 s.lent, n.lent ∙ i.1, told_line c.loop-n.told _ _ _ _ _ _ _ _ i.2.1 _ _ _ (later i.0 s) _ c.in-Some.is _ c.front.ensures _ _ n.answer n.laid)

pub returns : goal.returns
returns g c =
    let i = c.loop-n.invariant in
    let s = c.in_ok-n.ensures.goes in
    record {
      lent = same_then i.0 s.lent;
      same_area = i.1;
      talks = told_flush c.loop-n.told _ _ _ _ _ _ _ _ i.2.1 _ _ _ (later i.0 s) c.in_default.is;
    }
