use Rattle.std.proofs.Common.{◌∙◌, sym, None}
use Rattle.records.proofs.Changing.{finds, distinct_freed, set_at_key, unknown_stays, freed_law}
use Rattle.records.proofs.records.Records.remove.Goals as goal

pub returns-in_default-clause-value : goal.returns-in_default-clause-value
returns-in_default-clause-value c = unknown_stays (λ _. None) c.args.self.places c.args.key.now (sym c.in_default.is ∙ c.find.ensures.value)

pub returns-in_default-clause-law : goal.returns-in_default-clause-law
returns-in_default-clause-law c = freed_law c.args.key.now c.args.self.places c.args.self.places (unknown_stays (λ _. None) c.args.self.places c.args.key.now (sym c.in_default.is ∙ c.find.ensures.value))

pub with_place-requires-clause-distinct : goal.with_place-requires-clause-distinct
with_place-requires-clause-distinct c = distinct_freed c.args.self.places c.args.key.now c.in-Some.place c.in-Some.ensures.value c.args.self.distinct

pub returns-clause-value : goal.returns-clause-value
returns-clause-value c =
    c.with_place.ensures ∙ set_at_key (λ _. None) c.args.self.places c.args.key.now c.args.self.distinct c.in-Some.place (finds c.args.self.places c.args.key.now c.in-Some.place c.in-Some.ensures.value)

pub returns-clause-law : goal.returns-clause-law
returns-clause-law c =
    freed_law c.args.key.now c.args.self.places c.with_place.result.places
    (c.with_place.ensures ∙ set_at_key (λ _. None) c.args.self.places c.args.key.now c.args.self.distinct c.in-Some.place (finds c.args.self.places c.args.key.now c.in-Some.place c.in-Some.ensures.value))
