use Rattle.std.proofs.Common.{◌++◌, Result, Ok, Err, MatchResult, sym, refl, ap, ◌∙◌, append_assoc, subst}
use Rattle.std.specs.Result.{IsOk}
use Rattle.std.specs.Str.{IsUtf8}
use Rattle.std.proofs.Output.{has_written_append, has_written_of_eq}
use Rattle.std.proofs.lemmas.Result.{MatchResult-at_ok}
use Rattle.recording.proofs.Apart.{escaped_append}
use Rattle.recording.proofs.Laying.{front_of_over}
use Rattle.recording.proofs.show.EscapedDisplay.fmt.Goals as goal

is_ok : {T E : Type 0} (P : T → Type 0) (Q : E → Type 0) (r : Result T E) → MatchResult r P Q → ((e : E) → Q e → ⊥) → IsOk r
is_ok P Q (Ok x) m n = refl
is_ok P Q (Err e) m n = absurd (n e m)

-- what is laid is text
pub unwrap-requires : goal.unwrap-requires
unwrap-requires g c =
    let front = front_of_over _ _ _ _ c.lay_escaped-n.ensures.value c.lay_escaped-n.ensures.len in
    is_ok _ _ c.from_utf8.result c.from_utf8.ensures.cases (λ e n. n.0 (subst IsUtf8 (sym front) c.lay_escaped-n.ensures.text))

pub loop-part-preserved : goal.loop-part-preserved
loop-part-preserved g c =
    let s = c.in-Some.ensures.steps in
    let i = c.loop-part.invariant.1 in
    let xs = i.0 in
    let part = c.in-Some.part.now in
    let front = front_of_over _ _ _ _ c.lay_escaped-n.ensures.value c.lay_escaped-n.ensures.len in
    let text = (MatchResult-at_ok _ _ c.unwrap.result c.unwrap.ensures c.from_utf8.ensures.cases).0 ∙ front in
    let all = i.1 ∙ ap (λ r. xs ++ r) s.1.0 ∙ sym (append_assoc xs part c.next.new.self.rest.now) in (
      s.0 ∙ c.loop-part.invariant.0,
      (
        xs ++ part,
        all,
        λ plain.
            let before = i.2 plain in
            has_written_of_eq _ _ _ _ _ (sym (escaped_append xs part))
            (has_written_append _ _ _ _ _ _ before (has_written_of_eq _ _ _ _ _ text (c.in_ok-write_str.ensures.writes before.plain refl))),
      ),
    )
