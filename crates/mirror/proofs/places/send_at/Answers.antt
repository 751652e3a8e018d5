use Rattle.std.proofs.Common.{refl, subst}
use Rattle.mirror.specs.declared.seat.Seat.{Seat}
use Rattle.mirror.specs.Memory.{prefix_of}
use Rattle.mirror.specs.Seats.{Sends}
use Rattle.mirror.proofs.Seating.{at_any}
use Rattle.mirror.proofs.places.send_at.Goals as goal

pub returns : goal.returns
returns c =
    let same = λ (d : Seat). at_any c.args.seats.now c.args.at c.index-seats-at.result d c.requires.place in
    record {
      seat = c.send.new.self;
      placed = refl;
      done = λ d. subst (λ (s : Seat). Sends (prefix_of c.args.house.now) c.args.house.now.names s c.args.bytes.now c.send.new.self) (same d) c.send.ensures;
    }
