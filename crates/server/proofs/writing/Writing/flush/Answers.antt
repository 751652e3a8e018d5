use Rattle.packetline.specs.Packets.{flush}
use Rattle.server.proofs.Sent.{says_one}
use Rattle.server.proofs.writing.Writing.flush.Goals as goal

pub returns-in-Ok-clause-goes : goal.returns-in-Ok-clause-goes
returns-in-Ok-clause-goes g c = let h = c.in-Ok.ensures in (h.0, λ status. says_one {x = flush} (h.1 status))

pub returns-in-Err-Line-clause-goes : goal.returns-in-Err-Line-clause-goes
returns-in-Err-Line-clause-goes g c = let h = rw c.in-Err-Line.field-0-is at c.in-Err-Line.ensures in (h.0, λ status. says_one {x = flush} (h.1 status))
