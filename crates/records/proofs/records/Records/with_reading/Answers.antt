use Rattle.std.proofs.Common.{◌∙◌, ◌≡◌, ap, refl, sym, option_map, rules}
use Rattle.records.specs.Records.{with_reading}
use Rattle.records.proofs.Changing.{put_changed, distinct_changed, unknown_stays, changed_law}
use Rattle.records.proofs.records.Records.with_reading.Goals as goal

pub returns-in_default-clause-value : goal.returns-in_default-clause-value
returns-in_default-clause-value c = unknown_stays (option_map (with_reading c.args.reading)) c.args.self.places c.args.key.now (sym c.in_default.is ∙ c.find.ensures.value)

pub returns-in_default-clause-law : goal.returns-in_default-clause-law
returns-in_default-clause-law c =
    changed_law c.args.key.now (with_reading c.args.reading) (λ _ e. e) c.args.self.places c.args.self.places
    (unknown_stays (option_map (with_reading c.args.reading)) c.args.self.places c.args.key.now (sym c.in_default.is ∙ c.find.ensures.value))

pub with_place-requires-clause-distinct : goal.with_place-requires-clause-distinct
with_place-requires-clause-distinct c =
    let is : c.map.result ≡ option_map (with_reading c.args.reading) c.get.result = search rules in
    distinct_changed (with_reading c.args.reading) (λ _. refl) c.args.self.places c.args.key.now c.in-Some.place c.in-Some.ensures.value
    c.map.result (is ∙ ap (option_map (with_reading c.args.reading)) c.get.ensures) c.args.self.distinct

pub returns-clause-value : goal.returns-clause-value
returns-clause-value c =
    let is : c.map.result ≡ option_map (with_reading c.args.reading) c.get.result = search rules in
    c.with_place.ensures
    ∙ put_changed (with_reading c.args.reading) c.args.self.places c.args.key.now c.in-Some.place c.in-Some.ensures.value c.map.result (is ∙ ap (option_map (with_reading c.args.reading)) c.get.ensures) c.args.self.distinct

pub returns-clause-law : goal.returns-clause-law
returns-clause-law c =
    let is : c.map.result ≡ option_map (with_reading c.args.reading) c.get.result = search rules in
    changed_law c.args.key.now (with_reading c.args.reading) (λ _ e. e) c.args.self.places c.with_place.result.places
    (c.with_place.ensures
    ∙ put_changed (with_reading c.args.reading) c.args.self.places c.args.key.now c.in-Some.place c.in-Some.ensures.value c.map.result (is ∙ ap (option_map (with_reading c.args.reading)) c.get.ensures) c.args.self.distinct)
