use Rattle.std.proofs.Common.{arith, rules}
use Rattle.host.proofs.Exits.{told_err}
use Rattle.client.proofs.Judging.{handshake_right}
use Rattle.process.proofs.Peering.{back_by}
use Rattle.client.proofs.client.Client.handshake.Goals as goal

pub returns-in_err-agreed-clause-goes : goal.returns-in_err-agreed-clause-goes
returns-in_err-agreed-clause-goes g c =
    rw (told_err c.from_residual.result c.from_residual.ensures.1) (handshake_right c.args.work.now c.args.versions.now c.args.names.now (omega arith) (omega arith) (omega arith), (back_by g.H.Host.log g.H.Host.world _ _ c.in_err-agreed.ensures (search rules) (search rules)))

pub returns-clause-goes : goal.returns-clause-goes
returns-clause-goes g c = (handshake_right c.args.work.now c.args.versions.now c.args.names.now (omega arith) (omega arith) (omega arith), back_by g.H.Host.log g.H.Host.world _ _ c.in_ok-agreed.ensures (search rules) (search rules))
