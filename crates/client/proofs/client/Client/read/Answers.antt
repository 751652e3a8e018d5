use Rattle.std.proofs.Common.{Ok, arith, rules}
use Rattle.host.proofs.Exits.{told_err}
use Rattle.process.proofs.Laid.{rooms_there}
use Rattle.client.proofs.Pieces.{back_piece}
use Rattle.process.proofs.Peering.{back_with}
use Rattle.client.proofs.client.Client.read.Goals as goal

pub returns-in_err-read-clause-goes : goal.returns-in_err-read-clause-goes
returns-in_err-read-clause-goes g c =
    rw (told_err c.from_residual.result c.from_residual.ensures.1) (rooms_there c.args.work.now c.args.status.now (omega arith) (omega arith), back_with g.H.Host.log g.H.Host.world _ _ _ c.in_err-read.ensures.goes (search rules) (search rules) (search rules))

pub returns-clause-goes : goal.returns-clause-goes
returns-clause-goes g c = (rooms_there c.args.work.now c.args.status.now (omega arith) (omega arith), back_piece g.H.Host.log g.H.Host.world _ _ _ (Ok c.in_ok-read.field-0) c.in_ok-read.ensures.goes (search rules) (search rules) (search rules))
