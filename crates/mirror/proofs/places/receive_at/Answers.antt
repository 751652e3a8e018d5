use Rattle.std.proofs.Common.{◌++◌, length, take, drop, min, refl, ap, ◌∙◌, subst}
use Rattle.mirror.specs.declared.seat.Seat.{Seat}
use Rattle.mirror.specs.Memory.{waiting_in}
use Rattle.mirror.specs.Seats.{Takes}
use Rattle.mirror.proofs.Seating.{at_any}
use Rattle.mirror.proofs.places.receive_at.Goals as goal

pub returns : goal.returns
returns c =
    let n = c.receive.result in
    let same = λ (d : Seat). at_any c.args.seats.now c.args.at c.index-seats-at.result d c.requires in
    record {
      takes = record { seat = c.receive.new.self; placed = refl; done = λ d. subst (λ (s : Seat). Takes s n c.receive.new.self) (same d) c.receive.ensures.takes };
      len = λ d. c.receive.ensures.len ∙ ap (λ (s : Seat). min (length (waiting_in s.answer)) (length c.args.area.now)) (same d);
      laid = λ d. c.receive.ensures.laid ∙ ap (λ (s : Seat). take n (waiting_in s.answer) ++ drop n c.args.area.now) (same d);
    }
