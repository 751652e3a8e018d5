use Rattle.std.proofs.Common.{◌∙◌, ◌<◌, length, sym, refl, arith}
use Rattle.records.proofs.Changing.{insert_within, insert_distinct, insert_is, insert_nowhere, insert_refused, insert_somewhere, insert_law}
use Rattle.records.proofs.records.Records.insert.Goals as goal

pub returns-in_default-clause-value : goal.returns-in_default-clause-value
returns-in_default-clause-value c = insert_refused c.args.added c.args.self.places (sym c.in_default.is ∙ c.place_for.ensures)

pub returns-in_default-clause-full : goal.returns-in_default-clause-full
returns-in_default-clause-full c =
    let h = insert_nowhere c.args.added c.args.self.places (sym c.in_default.is ∙ c.place_for.ensures) in (λ _. (rw h.0 refl, h.1 ∙ c.args.self.room), λ _. refl)

pub with_place-requires-clause-inside : goal.with_place-requires-clause-inside
with_place-requires-clause-inside c =
    let l : c.in-Some.place < length c.args.self.places = insert_within c.args.added c.args.self.places c.in-Some.place c.in-Some.ensures in
    let room = c.args.self.room in
    omega arith

pub with_place-requires-clause-distinct : goal.with_place-requires-clause-distinct
with_place-requires-clause-distinct c = insert_distinct c.args.added c.args.self.places c.args.self.distinct c.in-Some.place c.in-Some.ensures

pub returns-clause-value : goal.returns-clause-value
returns-clause-value c = rw c.with_place.ensures (insert_is c.args.added c.args.self.places c.args.self.distinct c.in-Some.place c.in-Some.ensures)

pub returns-clause-law : goal.returns-clause-law
returns-clause-law c =
    insert_law c.args.added c.args.self.places c.with_place.result.places
    (rw c.with_place.ensures (insert_is c.args.added c.args.self.places c.args.self.distinct c.in-Some.place c.in-Some.ensures))

pub returns-clause-full : goal.returns-clause-full
returns-clause-full c = (
  λ f. cc,
  λ (u, n). absurd (insert_somewhere c.args.added c.args.self.places c.in-Some.place c.in-Some.ensures u (n ∙ sym c.args.self.room)),
)
