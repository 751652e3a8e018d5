use Rattle.std.proofs.Common.{◌<◌, [], ◌∷◌, ◌++◌, length, vec_items, sym, refl, ap, ◌∙◌, subst, arith}
use Rattle.std.proofs.lemmas.Slice.{pushed}
use Rattle.std.proofs.lemmas.Bool.{eqb-false}
use Rattle.recording.specs.Shown.{shown, escaped, AllBytes}
use Rattle.recording.proofs.Apart.{stuck, lead_is, read_more}
use Rattle.recording.proofs.Hexadecimal.{all_push}
use Rattle.recording.proofs.show.read_back.Goals as goal

pub returns-in_default : goal.returns-in_default
returns-in_default c bs h e =
    let some = eqb-false (length c.loop-rest.rest.now) 0 (sym c.loop-rest-test.ensures) in
    stuck (vec_items c.loop-rest.bytes) bs c.loop-rest.rest.now c.loop-rest.invariant.1 h (omega (arith, some))
    (λ b x l f. let first = c.lead-b.ensures ∙ lead_is c.loop-rest.rest.now x b l f in c.in_default.ensures x (f ∙ ap (λ d. shown d ++ x) (sym first)))
    (sym c.loop-rest.invariant.0 ∙ e)

pub loop-rest-preserved : goal.loop-rest-preserved
loop-rest-preserved c =
    let e = pushed (c.lead-b.result ∷ []) refl c.in_ok-push.was c.push.ensures.items in
    let small : c.lead-b.result < 256 = omega arith in (
      read_more c.args.text.now (vec_items c.loop-rest.bytes) c.loop-rest.rest.now c.in-Some.tail.now c.lead-b.result c.loop-rest.invariant.0 c.in-Some.ensures ∙ ap (λ xs. escaped xs ++ c.in-Some.tail.now) (sym e),
      subst AllBytes (sym e) (all_push _ c.lead-b.result c.loop-rest.invariant.1 small),
    )
