use Rattle.std.proofs.Common.{arith, rules}
use Rattle.host.proofs.Exits.{told_err}
use Rattle.process.proofs.Peering.{back_by}
use Rattle.server.proofs.Serving.{serve_right}
use Rattle.server.proofs.server.Server.handshake.Goals as goal

pub returns-in_err-accord-clause-goes : goal.returns-in_err-accord-clause-goes
returns-in_err-accord-clause-goes g c =
    rw (told_err c.from_residual.result c.from_residual.ensures.1) (serve_right c.args.work.now c.args.available.now (omega arith) (omega arith), back_by g.H.Host.log g.H.Host.world _ _ c.in_err-accord.ensures (search rules) (search rules))

pub returns-clause-goes : goal.returns-clause-goes
returns-clause-goes g c = (serve_right c.args.work.now c.args.available.now (omega arith) (omega arith), back_by g.H.Host.log g.H.Host.world _ _ c.in_ok-accord.ensures (search rules) (search rules))
