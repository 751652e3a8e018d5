use Rattle.std.proofs.Common.{rules}
use Rattle.records.proofs.Finding.{place_is}
use Rattle.records.proofs.records.Records.find.Goals as goal

pub returns-clause-law : goal.returns-clause-law
returns-clause-law c = place_is c.args.self.now.places c.args.self.now.distinct c.args.key.now c.first.result (search rules)
