use Rattle.std.proofs.Common.{ℕ, ◌≤◌, List, length, get_or, sym, ap, ◌∙◌, subst, arith}
use Rattle.host.proofs.Exits.{told_err}
use Rattle.host.proofs.Peering.{sent_more, sent_stop}
use Rattle.handshake.specs.Places.{is_among}
use Rattle.handshake.specs.Sharing.{places_of}
use Rattle.handshake.specs.Servers.{shared_line}
use Rattle.handshake.proofs.Places.{shared_next}
use Rattle.handshake.proofs.Placing.{among_at}
use Rattle.process.proofs.Lines.{lines_last, sent_last}
use Rattle.handshake.proofs.hearing.send_shares.Goals as goal

pub bounds-names-k : goal.bounds-names-k
bounds-names-k g c =
    let ks = c.as_slice-k-items.result.now in
    let i = c.loop-k.k-index in
    c.requires.inside (get_or ks i 0) (ap (is_among (get_or ks i 0)) (sym c.as_slice-k-items.ensures) ∙ among_at ks i 0 c.loop-k-test.true)

pub offset_bounds-names-k : goal.offset_bounds-names-k
offset_bounds-names-k g c = let l = bounds-names-k g c in let f = c.requires.few in omega (arith, l, f)

pub returns-in_err-send_pair : goal.returns-in_err-send_pair
returns-in_err-send_pair g c =
    let next = shared_next c.args.names.now _ (places_of c.args.shared.now) c.loop-k.k-index c.index-names-k.result c.as_bytes.result.now c.as_slice-k-items.ensures c.requires.inside c.loop-k-test.true c.index-names-k.is c.as_bytes.ensures.value in
    sent_stop c.loop-k.invariant next _ _ c.in_err-send_pair.ensures (told_err c.from_residual.result c.from_residual.ensures.1)

pub loop-k-preserved : goal.loop-k-preserved
loop-k-preserved g c =
    let next = shared_next c.args.names.now _ (places_of c.args.shared.now) c.loop-k.k-index c.index-names-k.result c.as_bytes.result.now c.as_slice-k-items.ensures c.requires.inside c.loop-k-test.true c.index-names-k.is c.as_bytes.ensures.value in
    sent_more c.loop-k.invariant next c.in_ok-send_pair.ensures

pub returns : goal.returns
returns g c =
    let ks = places_of c.args.shared.now in
    let last = subst (λ (l : List ℕ). length l ≤ c.loop-k.k-index) c.as_slice-k-items.ensures c.loop-k-test.false in
    sent_last c.loop-k.invariant (lines_last (shared_line c.args.names.now) ks c.loop-k.k-index last) c.send_flush.ensures
