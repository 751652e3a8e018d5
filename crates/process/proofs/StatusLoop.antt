-- The loop that reads a status.
use Rattle.std.proofs.Common.{◌≡◌, ℕ, List, [], ◌++◌, take, Some, None, Ok, Err, Option, Result, sym, refl, ap, ◌∙◌, subst}
use Rattle.packetline.specs.Lines.{kind_of}
use Rattle.host.specs.declared.fault.LineFault.{LineFault}
use Rattle.host.specs.Talk.{Event, areas, lay, read_text, shown_part, Sight, Acted, Works}
use Rattle.host.proofs.Talking.{talk_is}
use Rattle.process.specs.declared.status.Status.{Status}
use Rattle.process.specs.Given.{TalksBy}
use Rattle.process.specs.Statuses.{status_in, told_by, noted_by, laid_by, status_step, read_status, StatusLaw}
use Rattle.process.proofs.Gathers.{Left, left_fault, left_stop, left_more, text_falls}
use Rattle.process.proofs.Tellings.{status_talk}

acted_noted : (p : ℕ) (o : Option (List ℕ)) → Acted p (noted_by o) []
acted_noted p None = refl
acted_noted p (Some s) = refl

noted_laid : (o : Option (List ℕ)) (work status : List ℕ) → areas work (laid_by o status) ≡ lay (noted_by o) (areas work status)
noted_laid None work status = refl
noted_laid (Some s) work status = refl

module _ (st : Status) (w : Sight) (p : ℕ) (work status : List ℕ) (w₀ : Sight) (work₀ status₀ : List ℕ) (es : List Event)
    (left : Left read_text status_step st es w p (areas work status) read_status w₀ (areas work₀ status₀)) (w₁ : Sight) (work₁ : List ℕ) where
  pub told_fault : (r : Result Status LineFault) (e : LineFault) → Works read_text w p work (Err e) w₁ work₁ → r ≡ Err e
      → TalksBy StatusLaw read_status w₀ p (areas work₀ status₀) r w₁ (areas work₁ status)
  told_fault r e s is =
      status_talk (talk_is is (left_fault read_text status_step st w p (areas work status) read_status w₀ (areas work₀ status₀) w₁ (areas work₁ status) left e (s status)).0)

  module _ (o : Option ℕ) (s : Works read_text w p work (shown_part work₁ (Ok o)) w₁ work₁) where
    pub told_flush : o ≡ None → TalksBy StatusLaw read_status w₀ p (areas work₀ status₀) (Ok st) w₁ (areas work₁ status)
    told_flush e =
        status_talk
        (left_stop read_text status_step st w p (areas work status) read_status w₀ (areas work₀ status₀) w₁ (areas work₁ status) left None st
        (talk_is (ap (λ x. shown_part work₁ (Ok x)) (sym e)) (s status)) refl).0

    pub told_line : (n : ℕ) → o ≡ Some n → (part : List ℕ) → part ≡ take n work₁ → (st' : Status) (status₁ : List ℕ)
        → st' ≡ told_by st (status_in (kind_of part)) → status₁ ≡ laid_by (status_in (kind_of part)) status
        → (es' : List Event) × Left read_text status_step st' es' w₁ p (areas work₁ status₁) read_status w₀ (areas work₀ status₀)
    told_line n e part front st' status₁ is laid =
        let name : List ℕ → Option (List ℕ) = λ t. status_in (kind_of t) in
        let t = talk_is (ap (λ x. shown_part work₁ (Ok x)) (sym e)) (s status) in
        let o' = name (take n work₁) in
        let next = left_more read_text status_step st w p (areas work status) read_status w₀ (areas work₀ status₀) w₁ (areas work₁ status) left (Some (take n work₁)) (told_by st o') (noted_by o') (areas work₁ status₁)
        t refl (ap (areas work₁) (laid ∙ ap (λ m. laid_by (name m) status) front) ∙ noted_laid o' work₁ status) (acted_noted p o') (text_falls t) in
        let es' = noted_by o' ++ (t.events ++ es) in
        (es', subst (λ x. Left read_text status_step x es' w₁ p (areas work₁ status₁) read_status w₀ (areas work₀ status₀)) (sym (is ∙ ap (λ m. told_by st (name m)) front)) next)
