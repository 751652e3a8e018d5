use Rattle.std.proofs.Common.{take, ap, ◌∙◌, sym, length, get_or, arith, length-append}
use Rattle.recording.specs.Shown.{shown, escaped}
use Rattle.recording.proofs.Apart.{escaped_more}
use Rattle.recording.proofs.Ascii.{escaped_text}
use Rattle.recording.proofs.Laying.{over_more, shown_small}
use Rattle.packetline.specs.Packets.{over}
use Rattle.recording.proofs.show.lay_escaped.Goals as goal

pub loop-b-preserved : goal.loop-b-preserved
loop-b-preserved c =
    let before = escaped (take c.loop-b.b-index c.args.bytes.now) in
    let b = get_or c.args.bytes.now c.loop-b.b-index 0 in
    let more = sym (escaped_more c.args.bytes.now c.loop-b.b-index c.loop-b-test.true) in
    let small = shown_small b in (
      over_more before (shown b) c.args.area.now c.loop-b.area _ c.loop-b.n c.loop-b.invariant.0 c.loop-b.invariant.1 c.lay_shown-n.ensures.value ∙ ap (λ xs. over xs c.args.area.now) more,
      omega (arith, length-append before (shown b), ap length more),
      omega arith,
    )

pub returns-clause-text : goal.returns-clause-text
returns-clause-text c = escaped_text c.args.bytes.now (λ i. omega (arith, c.type_inv.bytes i))
