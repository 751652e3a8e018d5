use Rattle.worked.proofs.Cases.{worked}
use Rattle.worked.proofs.Computed.{examples_stand}
use Rattle.worked.proofs.table_stands.Goals as goal

pub returns : goal.returns
returns c = record { cases = worked; lives = examples_stand }
