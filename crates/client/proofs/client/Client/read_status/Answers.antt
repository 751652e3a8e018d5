use Rattle.std.proofs.Common.{arith, rules}
use Rattle.host.proofs.Exits.{told_err}
use Rattle.process.proofs.Laid.{rooms_there}
use Rattle.process.proofs.Peering.{back_with}
use Rattle.client.proofs.client.Client.read_status.Goals as goal

pub returns-in_err-read_status : goal.returns-in_err-read_status
returns-in_err-read_status g c =
    rw (told_err c.from_residual.result c.from_residual.ensures.1) ((rooms_there c.args.work.now c.args.status.now (omega arith) (omega arith)), (back_with g.H.Host.log g.H.Host.world _ _ _ c.in_err-read_status.ensures (search rules) (search rules) (search rules)))

pub returns : goal.returns
returns g c = (rooms_there c.args.work.now c.args.status.now (omega arith) (omega arith), back_with g.H.Host.log g.H.Host.world _ _ _ c.in_ok-read_status.ensures (search rules) (search rules) (search rules))
