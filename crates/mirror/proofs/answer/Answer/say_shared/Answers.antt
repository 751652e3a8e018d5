use Rattle.std.proofs.Common.{◌<◌, ◌≤◌, length, get_or, sym, ap, ◌∙◌, subst, arith}
use Rattle.mirror.proofs.Saying.{one_said}
use Rattle.std.proofs.lemmas.List.{length-take}
use Rattle.handshake.specs.Places.{is_among, AllWithin}
use Rattle.handshake.specs.Sharing.{places_of}
use Rattle.handshake.proofs.Places.{shared_next}
use Rattle.handshake.proofs.Placing.{among_at}
use Rattle.mirror.proofs.answer.Answer.say_shared.Goals as goal

pub bounds-names-k : goal.bounds-names-k
bounds-names-k c =
    let ks = c.as_slice-k-items.result.now in
    let i = c.loop-k.k-index in
    let b : get_or ks i 0 < 2 = c.requires.inside (get_or ks i 0) (ap (is_among (get_or ks i 0)) (sym c.as_slice-k-items.ensures) ∙ among_at ks i 0 c.loop-k-test.true) in
    omega arith

pub offset_bounds-names-k : goal.offset_bounds-names-k
offset_bounds-names-k c = let l = bounds-names-k c in omega arith

pub loop-k-preserved : goal.loop-k-preserved
loop-k-preserved c =
    let i = c.loop-k.invariant in
    let n = c.index-names-k.result in
    let ks = places_of c.args.shared.now in
    let all : AllWithin (length c.args.names.now) ks = subst (λ m. AllWithin m ks) (sym c.requires.two) c.requires.inside in
    let next = shared_next c.args.names.now _ ks c.loop-k.k-index n c.as_bytes.result.now c.as_slice-k-items.ensures all c.loop-k-test.true c.index-names-k.is c.as_bytes.ensures.value in
    let long : length c.as_bytes.result.now ≤ 64 = omega (arith, ap length c.as_bytes.ensures.value, length-take n.text.len n.text.bytes, n.text.fits) in
    let s = c.args.shared.now in
    record {
      say = one_said i.say next c.say_pair.ensures.says;
      room = omega arith;
      few = omega (arith, ap length c.as_slice-k-items.ensures, length-take s.count s.places);
    }
