use Rattle.std.proofs.Common.{◌-◌, [], length, sym, ap, ◌∙◌}
use Rattle.std.proofs.lemmas.List.{append-nil}
use Rattle.host.specs.Worlds.{live, with_process}
use Rattle.slices.specs.Parts.{part}
use Rattle.scripts.specs.Rows.{pipe}
use Rattle.scripts.specs.Scripts.{world_of}
use Rattle.host.proofs.Hosts.{sent_gone, sent_snag, sent_whole}
use Rattle.scripts.proofs.script.ScriptHost.send.Goals as goal

pub returns-in_default-clause-goes : goal.returns-in_default-clause-goes
returns-in_default-clause-goes c = sent_gone (world_of c.args.self.now) c.args.process c.args.bytes.now c.in_default.ensures.meaning

pub returns-then-len-row-clause-goes : goal.returns-then-len-row-clause-goes
returns-then-len-row-clause-goes c =
    sent_snag (world_of c.args.self.now) c.args.process c.args.bytes.now (pipe c.args.self.now.bytes.now c.in-Some.row) c.in-Some.ensures.meaning
    c.from.result c.from.ensures c.if-len-row.true

pub returns-clause-goes : goal.returns-clause-goes
returns-clause-goes c =
    let row = c.in-Some.row in
    let bytes = c.args.self.now.bytes.now in
    let w = world_of c.args.self.now in
    sent_whole w c.args.process c.args.bytes.now (pipe bytes row) c.in-Some.ensures.meaning (λ _ _. []) _ c.if-len-row.false
    (c.play.ensures.value
    ∙ ap (λ ws. with_process w c.args.process (live (record (pipe bytes row) { waiting = ws; allowance = row.allowance - length c.args.bytes.now })))
    (sym (append-nil (part bytes row.plays))))
