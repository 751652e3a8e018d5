use Rattle.std.proofs.Common.{ℕ, List, subst}
use Rattle.packetline.specs.Text.{LessEnd}
use Rattle.packetline.proofs.Texts.{utf8_decides, less_end, text_is}
use Rattle.packetline.proofs.text.text.Goals as goal

pub returns : goal.returns
returns c =
    let h = c.in_ok-text.ensures.cases in
    let v = c.trim_end.ensures.value in
    let t = c.trim_end.result.now in
    let l = subst (λ (s : List ℕ). LessEnd s t) h.0 (less_end c.in_ok-text.text.now t v.0 v.1 v.2 v.3) in
    record { value = text_is c.args.payload.now t h.1 c.trim_end.utf8 l; law = (h.1, l); decides = utf8_decides c.args.payload.now }
