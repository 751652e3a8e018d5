use Rattle.std.proofs.Common.{refl, sym, rules}
use Rattle.driver.proofs.Reading.{read_unknown_so, read_went}
use Rattle.driver.proofs.Refused.{too_short}
use Rattle.driver.proofs.Settling.{known_place, known_reading}
use Rattle.driver.proofs.inner.read.Goals as goal

pub returns-then-not-have_room-clause-step : goal.returns-then-not-have_room-clause-step
returns-then-not-have_room-clause-step g c = too_short _ _ _ _ _ refl _ (search rules)

pub returns-in_default-clause-step : goal.returns-in_default-clause-step
returns-in_default-clause-step g c = read_unknown_so g.H.Host.capacity c.args.process c.args.state.now.records.places _ _ _ (search rules) (search rules)

pub settle-requires : goal.settle-requires
settle-requires g c = known_place c.args.state.now.records.places c.in-Some.record (known_reading c.args.state.now.records.places c.args.process c.in-Some.record (search rules))

pub returns-clause-step : goal.returns-clause-step
returns-clause-step g c =
    read_went g.H.Host.capacity c.args.process c.args.state.now.records.places c.in-Some.record (search rules) c.in-Some-reading.operation c.in-Some-reading.is c.read-said.ensures.goes _ (search rules)
    _ _ (λ v. sym (c.after_read-answer.ensures.judged c.read-said.new.work v)) _ _ c.settle.ensures
