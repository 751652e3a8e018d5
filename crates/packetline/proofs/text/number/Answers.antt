use Rattle.std.proofs.Common.{None, Some, ap, ◌∙◌}
use Rattle.packetline.specs.Text.{number_of}
use Rattle.packetline.proofs.Numbers.{text_read, number_is, not_utf8}
use Rattle.packetline.proofs.text.number.Goals as goal

pub returns-in_err-text : goal.returns-in_err-text
returns-in_err-text c =
    c.from_residual.ensures ∙ not_utf8 c.args.digits.now (text_read _ c.args.digits.now _ None c.from_utf8.ensures.cases c.in_err-text.ensures.value)

pub returns : goal.returns
returns c =
    let same = text_read _ c.args.digits.now _ (Some c.in_ok-text.text) c.from_utf8.ensures.cases c.in_ok-text.ensures.value in
    c.ok-2.ensures.value ∙ number_is c.in_ok-text.text.now c.parse.result c.parse.ensures.value.0 ∙ ap number_of same
