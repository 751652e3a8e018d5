use Rattle.scripts.proofs.Scripted.{plays}
use Rattle.scripts.proofs.script.Script.play.Goals as goal

pub returns-clause-value : goal.returns-clause-value
returns-clause-value c = plays c.args.self.now.bytes.now c.args.self.now.unused c.args.self.now.started c.args.self.now.count c.args.number c.args.place
