use Rattle.std.proofs.Common.{Ok, refl, ap}
use Rattle.slices.specs.Answers.{told}
use Rattle.host.proofs.Exits.{told_err}
use Rattle.host.proofs.Peering.{does_then, does_stop, does_is, does_got}
use Rattle.handshake.specs.Servers.{shared_then, shares_then, meets, met}
use Rattle.handshake.specs.Sharing.{places_of}
use Rattle.handshake.proofs.hearing.share.Goals as goal

pub returns-in_err-send_answers : goal.returns-in_err-send_answers
returns-in_err-send_answers g c =
    does_is (ap (told _ (λ f. f)) (told_err c.from_residual.result c.from_residual.ensures.1)) (does_stop (shared_then c.args.names.now c.args.version) _ _ c.in_err-send_answers.ensures refl)

pub returns-in_err-shared : goal.returns-in_err-shared
returns-in_err-shared g c =
    does_is (ap (told _ (λ f. f)) (told_err c.from_residual-in_err-shared.result c.from_residual-in_err-shared.ensures.1))
    (does_then (shared_then c.args.names.now c.args.version) _ c.in_ok-send_answers.ensures (does_stop (shares_then c.args.names.now c.args.version) _ _ c.in_err-shared.ensures.goes refl))

pub returns-in_err-send_shares : goal.returns-in_err-send_shares
returns-in_err-send_shares g c =
    does_is (ap (told _ (λ f. f)) (told_err c.from_residual-in_err-send_shares.result c.from_residual-in_err-send_shares.ensures.1))
    (does_then (shared_then c.args.names.now c.args.version) _ c.in_ok-send_answers.ensures
    (does_then (shares_then c.args.names.now c.args.version) _ c.in_ok-shared.ensures.goes (does_stop (meets c.args.version _) _ _ c.in_err-send_shares.ensures refl)))

pub returns : goal.returns
returns g c =
    let ks = places_of c.in_ok-shared.shared in
    does_then (shared_then c.args.names.now c.args.version) _ c.in_ok-send_answers.ensures
    (does_then (shares_then c.args.names.now c.args.version) _ c.in_ok-shared.ensures.goes (does_then (meets c.args.version ks) _ c.in_ok-send_shares.ensures (does_got (Ok (met c.args.version ks)) _)))
