use Rattle.std.proofs.Common.{ap, ◌∙◌}
use Rattle.client.proofs.Ended.{lf_stripped}
use Rattle.client.proofs.paths.less_lf.Goals as goal

pub returns : goal.returns
returns c = ap (λ b. b.now) c.unwrap_or.ensures ∙ lf_stripped c.args.bytes c.strip_suffix.result c.strip_suffix.ensures.cases
