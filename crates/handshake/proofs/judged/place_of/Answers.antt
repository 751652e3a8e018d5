use Rattle.handshake.proofs.judged.place_of.Goals as goal
use Rattle.handshake.proofs.Places.{place_none}

pub returns-in_default : goal.returns-in_default
returns-in_default c = place_none c.args.names.now c.args.text.now c.in_default.field-0 c.in_default.ensures.value
