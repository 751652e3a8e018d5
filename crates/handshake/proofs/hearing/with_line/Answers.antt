use Rattle.std.proofs.Common.{sym, ◌∙◌, subst, arith}
use Rattle.handshake.specs.Places.{AllWithin}
use Rattle.handshake.specs.Sharing.{places_of}
use Rattle.handshake.proofs.Placing.{place_within, within_place}
use Rattle.handshake.proofs.hearing.with_line.Goals as goal

pub insert-requires : goal.insert-requires
insert-requires c = let l = place_within c.args.names.now _ c.in-Some.k (sym c.place_of.ensures ∙ c.in-Some.is) in omega (arith, l, c.requires.few)

pub returns-in-Some-clause-within : goal.returns-in-Some-clause-within
returns-in-Some-clause-within c =
    let l = place_within c.args.names.now _ c.in-Some.k (sym c.place_of.ensures ∙ c.in-Some.is) in
    subst (AllWithin _) (sym c.insert.ensures) (within_place _ c.in-Some.k (places_of c.args.shared) l c.requires.inside)
