use Rattle.std.proofs.Common.{◌≡◌, ◌%◌, [], ◌∷◌, length, sym, refl, ap, ◌∙◌, subst, arith}
use Rattle.std.proofs.lemmas.Slice.{pushed}
use Rattle.std.proofs.lemmas.Bool.{eqb-false}
use Rattle.recording.specs.Recorded.{hex_of}
use Rattle.recording.specs.Shown.{AllBytes}
use Rattle.recording.proofs.Hexadecimal.{odd, bad_pair, pair_more, all_push}
use Rattle.recording.proofs.line.hex_bytes.Goals as goal

pub returns-then-not-is_empty : goal.returns-then-not-is_empty
returns-then-not-is_empty c =
    let left : length c.as_chunks.result.1.now ≡ length c.args.digits.now % 2 = c.as_chunks.ensures.back_len in
    let some = eqb-false (length c.as_chunks.result.1.now) 0 (sym c.if-not-is_empty.ensures) in
    odd c.args.digits.now (λ z. some (left ∙ z))

pub returns-in_default : goal.returns-in_default
returns-in_default c = bad_pair c.args.digits.now c.as_chunks.result.0.now c.loop-high.high-index (omega arith) c.as_chunks.ensures.front c.in_default.ensures

pub loop-high-preserved : goal.loop-high-preserved
loop-high-preserved c =
    let p = c.in-Some.ensures in
    let e = pushed (c.in-Some.b ∷ []) refl c.in_ok-push.was c.push.ensures.items in (
      pair_more c.args.digits.now c.as_chunks.result.0.now c.loop-high.high-index (omega arith) c.as_chunks.ensures.front _ c.in-Some.b c.loop-high.invariant.0 p.0 p.1 ∙ ap hex_of (sym e),
      subst AllBytes (sym e) (all_push _ c.in-Some.b c.loop-high.invariant.1 p.2),
    )
