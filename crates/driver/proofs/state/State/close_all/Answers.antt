use Rattle.std.proofs.Common.{arith, rules}
use Rattle.rules.proofs.Closing.{closes_none}
use Rattle.driver.proofs.Closings.{closes_one, closes_no, still_reading, all_closed}
use Rattle.driver.proofs.state.State.close_all.Goals.{in-Some, in_default}
use Rattle.driver.proofs.state.State.close_all.Goals as goal

pub returns-then-is_any_reading : goal.returns-then-is_any_reading
returns-then-is_any_reading g c a room = still_reading g.H.Host.capacity c.args.self.now.records.places _ a room (search rules)

pub loop-place-init : goal.loop-place-init
loop-place-init g c = closes_none _

pub loop-place-preserved : goal.loop-place-preserved
loop-place-preserved g c =
    let eight = c.args.self.now.records.room in
    elim c.match-get.branch [
      | in-Some w ↦ rw w.host-is (closes_one c.loop-place.place c.args.self.now.records.places (omega arith) c.loop-place.invariant w.in-Some.«record» (search rules) w.end.ensures.goes w.end.ensures.logs)
      | in_default w ↦ rw w.host-is (closes_no c.loop-place.place c.args.self.now.records.places (omega arith) c.loop-place.invariant (search rules))
    ]

pub returns : goal.returns
returns g c a room = all_closed g.H.Host.capacity c.args.self.now.records.places _ a room c.args.self.now.records.room (search rules) _ c.loop-place.place (omega arith) c.loop-place.invariant _ c.none-self.ensures.value
