use Rattle.std.proofs.Common.{arith, rules}
use Rattle.host.proofs.Exits.{told_err}
use Rattle.process.proofs.Laid.{rooms_there}
use Rattle.client.proofs.ListCalls.{back_lists}
use Rattle.client.proofs.client.Client.list_available_blobs.Goals as goal

pub returns-in_err-list : goal.returns-in_err-list
returns-in_err-list g c =
    rw (told_err c.from_residual.result c.from_residual.ensures.1) ((rooms_there c.args.work.now c.args.status.now (omega arith) (omega arith)), (back_lists g.H.Host.log g.H.Host.world c.list.new.peer c.list.new.status _ _ _ c.in_err-list.ensures.lists (search rules) (search rules) (search rules)))

pub returns : goal.returns
returns g c = (rooms_there c.args.work.now c.args.status.now (omega arith) (omega arith), back_lists g.H.Host.log g.H.Host.world c.list.new.peer c.list.new.status _ _ _ c.in_ok-list.ensures.lists (search rules) (search rules) (search rules))
