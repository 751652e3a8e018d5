use Rattle.std.proofs.Common.{arith}
use Rattle.scripts.proofs.Scripted.{made}
use Rattle.scripts.proofs.script.Script.new.Goals as goal

pub returns-clause-value : goal.returns-clause-value
returns-clause-value c = made c.args.bytes.now c.args.rows.now _ c.placed.result c.placed.ensures (omega arith) c.if-not-are_within.ensures
