use Rattle.std.proofs.Common.{refl, sym, rules}
use Rattle.driver.proofs.Fetching.{fetch_not, fetch_went, idle_known}
use Rattle.driver.proofs.Refused.{too_short, too_far}
use Rattle.driver.proofs.Settling.{known_place}
use Rattle.driver.proofs.state.State.fetch_delayed.Goals as goal

pub returns-then-not-have_room : goal.returns-then-not-have_room
returns-then-not-have_room g c =
    too_short _ _ _ _ _ refl _ (search rules)

pub returns-then-not-is_path : goal.returns-then-not-is_path
returns-then-not-is_path g c =
    too_far _ _ _ _ _ _ (search rules) (search rules)

pub returns-in-Err : goal.returns-in-Err
returns-in-Err g c =
    fetch_not g.H.Host.capacity c.args.self.now.records.places c.args.key.now c.args.operation c.args.path.now (search rules) _ _ _ (search rules) _ (search rules)

pub settle-requires : goal.settle-requires
settle-requires g c = known_place c.args.self.now.records.places c.in-Ok.record (idle_known c.args.self.now.records.places c.args.key.now c.in-Ok.record (search rules))

pub returns : goal.returns
returns g c =
    fetch_went g.H.Host.capacity c.args.self.now.records.places c.args.key.now c.args.operation c.args.path.now (search rules) c.in-Ok.record (search rules) c.ask_again-said.ensures _ (search rules)
    _ _ (λ v. sym (c.after_fetch-answer.ensures v)) _ _ c.settle.ensures
