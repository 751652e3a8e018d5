use Rattle.std.proofs.Common.{refl}
use Rattle.mirror.proofs.places.end_at.Goals as goal

pub returns : goal.returns
returns c = record { seat = c.end.new.self; placed = refl; done = λ d. c.end.ensures }
