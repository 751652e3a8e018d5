use Rattle.std.proofs.Common.{◌-◌, ◌+◌, ◌≡◌, take, drop, ap, ◌∙◌, arith}
use Rattle.host.proofs.Hosts.{part_rest}
use Rattle.mirror.proofs.answer.Answer.take.Goals as goal

pub returns-clause-gone : goal.returns-clause-gone
returns-clause-gone c =
    let a = c.args.self.now in
    let n = c.min-n.result in
    let left : a.to - (a.from + n) ≡ a.to - a.from - n = omega arith in
    ap (λ m. take m (drop (a.from + n) a.bytes)) left ∙ part_rest a.bytes a.from (a.to - a.from) n (omega arith)
