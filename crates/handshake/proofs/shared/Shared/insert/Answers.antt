use Rattle.std.proofs.Common.{sym, ◌∙◌, arith}
use Rattle.std.proofs.lemmas.List.{length-set}
use Rattle.handshake.proofs.Placing.{place_left, once_pushed, small_pushed}
use Rattle.handshake.proofs.shared.Shared.insert.Goals as goal

pub bounds-places-self : goal.bounds-places-self
bounds-places-self c = let s = c.args.self in place_left s.places s.count c.args.k s.room s.few s.once s.small (sym c.contains.ensures ∙ c.if-contains.false) c.requires

pub invariant_of-result : goal.invariant_of-result
invariant_of-result c =
    let s = c.args.self in
    let new = sym c.contains.ensures ∙ c.if-contains.false in
    let left = place_left s.places s.count c.args.k s.room s.few s.once s.small new c.requires in
    record {
      room = length-set s.places s.count c.args.k ∙ s.room;
      few = omega (arith, left);
      once = once_pushed s.places s.count c.args.k s.room s.few s.once s.small new c.requires;
      small = small_pushed s.places s.count c.args.k s.room s.few s.once s.small new c.requires;
    }
