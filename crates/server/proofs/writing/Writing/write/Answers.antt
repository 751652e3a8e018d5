use Rattle.std.proofs.Common.{Err}
use Rattle.server.proofs.Sent.{says_talk, checked_says}
use Rattle.server.specs.Writings.{written_packets}
use Rattle.server.proofs.writing.Writing.write.Goals as goal

pub returns-in-Ok-clause-goes : goal.returns-in-Ok-clause-goes
returns-in-Ok-clause-goes g c = let h = c.in-Ok.ensures in (h.0, (h.1.0, λ status. says_talk {ps = written_packets c.args.bytes.now} (h.1.1 status)))

pub returns-in-Err-clause-goes : goal.returns-in-Err-clause-goes
returns-in-Err-clause-goes g c = checked_says _ _ _ _ _ _ _ _ _ (Err c.in-Err.why) c.in-Err.ensures
