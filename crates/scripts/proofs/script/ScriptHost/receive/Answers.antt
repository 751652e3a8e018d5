use Rattle.std.proofs.Common.{◌++◌, length, take, drop, ap, ◌∙◌, arith}
use Rattle.std.proofs.lemmas.Grind.{common_steps}
use Rattle.host.specs.Worlds.{live, with_process}
use Rattle.scripts.specs.Rows.{pipe}
use Rattle.scripts.specs.Scripts.{world_of}
use Rattle.host.proofs.Hosts.{received_some, part_rest, copied}
use Rattle.scripts.proofs.script.ScriptHost.receive.Goals as goal

pub returns-clause-goes : goal.returns-clause-goes
returns-clause-goes c =
    let row = c.in-Some.row in
    let bytes = c.args.self.now.bytes.now in
    let w = world_of c.args.self.now in
    let n = c.min-n.result in
    let waiting = c.slice-waiting.result.now in
    let is = c.slice-waiting.ensures in
    received_some w c.args.process (pipe bytes row) c.in-Some.ensures.meaning c.args.area.now _ n _
    (omega arith) (omega arith) (omega (arith, ap length is))
    (c.play.ensures.value
    ∙ ap (λ ws. with_process w c.args.process (live (record (pipe bytes row) { waiting = ws })))
    (part_rest bytes row.plays.at row.plays.len n (grind (arith, common_steps))))
    (copied waiting c.args.area.now c.copy_from_slice.new.self n c.copy_from_slice.ensures.after ∙ ap (λ l. take n l ++ drop n c.args.area.now) is)
