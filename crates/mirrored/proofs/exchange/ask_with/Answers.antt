use Rattle.std.proofs.Common.{◌≡◌, None}
use Rattle.host.specs.Talk.{sight}
use Rattle.mirror.specs.Worlds.{world_of}
use Rattle.mirrored.proofs.Exchanging.{asks_so}
use Rattle.mirrored.proofs.exchange.ask_with.Goals as goal

pub returns : goal.returns
returns c = λ path lines.
    asks_so (sight None (world_of c.args.mirror.now)) c.args.client.process c.args.work.now c.args.status.now c.args.command.now path c.args.content.now c.args.meta.now (sight None (world_of c.invoke.new.host)) c.invoke.new.work c.invoke.new.status
    ((c.invoke.new.host ≡ c.args.mirror.now) × (c.invoke.new.work ≡ c.args.work.now) × (c.invoke.new.status ≡ c.args.status.now)) c.invoke.result c.invoke.ensures lines
