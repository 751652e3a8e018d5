use Rattle.std.proofs.Common.{arith, rules}
use Rattle.host.proofs.Exits.{told_err}
use Rattle.client.proofs.Judging.{invoke_right}
use Rattle.process.proofs.Peering.{back_with}
use Rattle.client.proofs.client.Client.invoke.Goals as goal

pub returns-in_err-invoke : goal.returns-in_err-invoke
returns-in_err-invoke g c =
    rw (told_err c.from_residual.result c.from_residual.ensures.1) (invoke_right c.args.work.now c.args.status.now c.args.command.now c.args.meta.now (omega arith) (omega arith) (search rules), (back_with g.H.Host.log g.H.Host.world _ _ _ c.in_err-invoke.ensures (search rules) (search rules) (search rules)))

pub returns : goal.returns
returns g c = (invoke_right c.args.work.now c.args.status.now c.args.command.now c.args.meta.now (omega arith) (omega arith) (search rules), back_with g.H.Host.log g.H.Host.world _ _ _ c.in_ok-invoke.ensures (search rules) (search rules) (search rules))
