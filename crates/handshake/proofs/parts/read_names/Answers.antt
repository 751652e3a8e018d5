use Rattle.std.proofs.Common.{[], rules}
use Rattle.host.proofs.Exits.{told_err}
use Rattle.host.proofs.Peering.{later}
use Rattle.process.proofs.Gathers.{text_falls}
use Rattle.handshake.proofs.NamesLoop.{names_first, names_fault, names_wrong, names_more, names_end}
use Rattle.handshake.proofs.parts.read_names.Goals as goal

pub loop-n-init : goal.loop-n-init
loop-n-init g c = names_first c.args.names.now _ (search rules) _

pub returns-in_err-n : goal.returns-in_err-n
returns-in_err-n g c =
    names_fault c.args.names.now c.loop-n.invariant (λ x. x.mask) _ _ c.in_err-n.ensures.goes (told_err c.from_residual.result c.from_residual.ensures.1)

pub returns-in_err-named : goal.returns-in_err-named
returns-in_err-named g c =
    names_wrong c.args.names.now c.loop-n.invariant _ c.in_ok-n.ensures.goes _ c.in-Some.is _ c.front.ensures (λ x. x.mask) _ _ c.in_err-named.ensures (told_err c.from_residual-in_err-named.result c.from_residual-in_err-named.ensures.1)

pub loop-n-smaller : goal.loop-n-smaller
loop-n-smaller g c = text_falls (later c.loop-n.invariant.lent c.in_ok-n.ensures.goes [])

pub loop-n-preserved : goal.loop-n-preserved
loop-n-preserved g c = names_more c.args.names.now c.loop-n.invariant _ c.in_ok-n.ensures.goes _ c.in-Some.is _ c.front.ensures _ c.in_ok-named.ensures

pub returns : goal.returns
returns g c = names_end c.args.names.now c.loop-n.invariant _ c.in_ok-n.ensures.goes c.in_default.is
