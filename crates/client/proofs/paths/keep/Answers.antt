use Rattle.std.proofs.Common.{arith}
use Rattle.client.proofs.Keeps.{line_stored, line_left}
use Rattle.client.proofs.paths.keep.Goals as goal

pub returns-in-Some-next-clause-keeps : goal.returns-in-Some-next-clause-keeps
returns-in-Some-next-clause-keeps c = line_stored c.args.kept _ _ _ c.in-Some.path.now _ c.in-Some.ensures _ _ _ _ _ _ (omega arith) c.in-Some-next.is c.store-next.ensures.keeps

pub returns-in-None-clause-keeps : goal.returns-in-None-clause-keeps
returns-in-None-clause-keeps c = line_left c.args.kept _ _ _ c.in-Some.path.now _ c.in-Some.ensures _ (omega arith) c.in-None.is
