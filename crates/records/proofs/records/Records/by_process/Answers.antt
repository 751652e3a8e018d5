use Rattle.records.proofs.Finding.{reading_is}
use Rattle.records.proofs.records.Records.by_process.Goals as goal

pub returns-clause-law : goal.returns-clause-law
returns-clause-law c = reading_is c.args.self.now.places c.args.process c.first_reading.result c.first_reading.ensures
