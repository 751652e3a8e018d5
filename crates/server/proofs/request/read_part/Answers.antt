use Rattle.std.proofs.Common.{Ok, Err, arith, rules}
use Rattle.host.proofs.Exits.{told_err}
use Rattle.server.proofs.Contents.{room_there, back_content}
use Rattle.server.proofs.request.read_part.Goals as goal

pub returns-in_err-read_content-clause-goes : goal.returns-in_err-read_content-clause-goes
returns-in_err-read_content-clause-goes g c =
    rw (told_err c.from_residual.result c.from_residual.ensures.1) (room_there c.args.work.now (omega arith), back_content g.H.Host.log g.H.Host.world _ _ (Err c.in_err-read_content.field-0.0) c.in_err-read_content.ensures.goes (search rules) (search rules))

pub returns-clause-goes : goal.returns-clause-goes
returns-clause-goes g c = (room_there c.args.work.now (omega arith), back_content g.H.Host.log g.H.Host.world _ _ (Ok c.in_ok-read_content.field-0) c.in_ok-read_content.ensures.goes (search rules) (search rules))
