use Rattle.std.proofs.Common.{rules}
use Rattle.driver.proofs.Fetching.{idle_known}
use Rattle.driver.proofs.Listing.{list_short, list_not, list_went}
use Rattle.driver.proofs.Settling.{known_place}
use Rattle.driver.proofs.state.State.list_delayed_paths.Goals as goal

pub returns-then-not-have_room : goal.returns-then-not-have_room
returns-then-not-have_room g c =
    list_short g.H.Host.capacity c.args.self.now.records.places c.args.key.now c.args.rows.now c.args.text.now _ _ _ (search rules)

pub returns-in-Err : goal.returns-in-Err
returns-in-Err g c =
    list_not g.H.Host.capacity c.args.self.now.records.places c.args.key.now c.args.rows.now c.args.text.now _ _ _ (search rules) _ (search rules)

pub settle-requires : goal.settle-requires
settle-requires g c = known_place c.args.self.now.records.places c.in-Ok.«record» (idle_known c.args.self.now.records.places c.args.key.now c.in-Ok.«record» (search rules))

pub returns : goal.returns
returns g c =
    list_went g.H.Host.capacity c.args.self.now.records.places c.args.key.now c.args.rows.now c.args.text.now c.in-Ok.«record» (search rules) c.list-told.ensures _ (search rules)
    _ _ c.after_listing-answer.ensures _ _ c.settle.ensures
