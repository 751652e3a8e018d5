use Rattle.std.proofs.Common.{◌≡◌, true, rules}
use Rattle.std.specs.List.{list_all}
use Rattle.packetline.specs.Packets.{sendable}
use Rattle.client.specs.Requests.{meta_line, command_line}
use Rattle.client.proofs.Pairs.{request_all}
use Rattle.client.proofs.invoke.are_sendable.Goals as goal

pub returns-then-is_sendable : goal.returns-then-is_sendable
returns-then-is_sendable c =
    let first : true ≡ sendable (command_line c.args.command.now) = search rules in
    let rest : c.are_all_sendable.result ≡ list_all (λ m. sendable (meta_line m)) c.args.meta.now = search rules in
    request_all c.args.command.now c.args.meta.now c.are_all_sendable.result first rest
