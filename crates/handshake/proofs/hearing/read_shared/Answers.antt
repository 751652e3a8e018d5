use Rattle.std.proofs.Common.{[], sym, ap, subst}
use Rattle.host.proofs.Exits.{told_err}
use Rattle.host.proofs.Peering.{later}
use Rattle.process.proofs.Gathers.{text_falls}
use Rattle.slices.specs.Answers.{told}
use Rattle.handshake.specs.Places.{AllWithin}
use Rattle.handshake.specs.Sharing.{places_of}
use Rattle.handshake.proofs.Placing.{within_none}
use Rattle.handshake.proofs.SharedLoop.{shared_first, shared_fault, shared_end, shared_more}
use Rattle.handshake.proofs.hearing.read_shared.Goals as goal

pub loop-n-init : goal.loop-n-init
loop-n-init g c = (shared_first c.args.names.now _ c.none-shared.ensures _, subst (AllWithin _) (sym c.none-shared.ensures) (within_none _))

pub returns-in_err-n-clause-goes : goal.returns-in_err-n-clause-goes
returns-in_err-n-clause-goes g c =
    shared_fault c.args.names.now c.loop-n.invariant.0 _ _ c.in_err-n.ensures.goes (ap (told places_of (λ f. f)) (told_err c.from_residual.result c.from_residual.ensures.1))

pub loop-n-smaller : goal.loop-n-smaller
loop-n-smaller g c = text_falls (later c.loop-n.invariant.0.lent c.in_ok-n.ensures.goes [])

pub loop-n-preserved : goal.loop-n-preserved
loop-n-preserved g c = (shared_more c.args.names.now c.loop-n.invariant.0 _ c.in_ok-n.ensures.goes _ c.in-Some.is _ c.front.ensures _ c.with_line-shared.ensures.value, c.with_line-shared.ensures.within)

pub returns-clause-goes : goal.returns-clause-goes
returns-clause-goes g c = shared_end c.args.names.now c.loop-n.invariant.0 _ c.in_ok-n.ensures.goes c.in_default.is
