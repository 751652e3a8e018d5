use Rattle.std.proofs.Common.{◌∙◌}
use Rattle.packetline.proofs.Trims.{empty_is, no_text_blank}
use Rattle.packetline.proofs.metadata.is_blank.Goals as goal

pub returns-in-Ok : goal.returns-in-Ok
returns-in-Ok c =
    let h = c.in-Ok.ensures in
    c.is_empty.ensures ∙ empty_is c.args.bytes.now c.in-Ok.kept.now h.law.0 h.law.1 h.value

pub returns-in-Err : goal.returns-in-Err
returns-in-Err c = no_text_blank c.args.bytes.now c.in-Err.ensures.law
