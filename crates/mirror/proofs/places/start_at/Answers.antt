use Rattle.std.proofs.Common.{refl}
use Rattle.mirror.proofs.places.start_at.Goals as goal

pub returns : goal.returns
returns c = record { seat = c.start.new.self; placed = refl; done = λ d. c.start.ensures }
