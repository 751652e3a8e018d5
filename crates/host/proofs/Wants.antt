-- A packet read where content or text is wanted.
use Rattle.std.proofs.Common.{◌≡◌, ℕ, ◌+◌, ◌≤◌, List, length, take, Some, None, Ok, Err, Option, Result, sym, refl, ap, ◌∙◌, subst, arith}
use Rattle.std.proofs.lemmas.List.{length-append, length-take, take_at, take-take}
use Rattle.packetline.specs.declared.packet.Packet.{Packet}
use Rattle.packetline.specs.declared.packet.Packet.TheVariants.{Flush, Delimiter, ResponseEnd, Data}
use Rattle.packetline.specs.declared.text.Error.{Error}
use Rattle.packetline.specs.declared.text.Error.TheVariants.{NotUtf8}
use Rattle.packetline.specs.Packets.{flush, delimiter, response_end, line}
use Rattle.packetline.specs.Text.{text_number, text_of, IsText}
use Rattle.host.specs.declared.fault.LineFault.{LineFault}
use Rattle.host.specs.declared.fault.LineFault.TheVariants.{Marker, Text}
use Rattle.host.specs.Talk.{areas, texted, text_in, wanted, read, read_content, read_text, shown, shown_part, Sight, Talks, Works}
use Rattle.host.proofs.Talking.{talk_none, talk_then, talk_stop, talk_is}

-- what a packet answers where content is wanted
abbrev pub content_answer : Packet ℕ → Result (Option ℕ) LineFault
content_answer Flush = Ok None
content_answer Delimiter = Err Marker
content_answer ResponseEnd = Err Marker
content_answer (Data n) = Ok (Some n)

pub marker_answer : (k : Packet ℕ) → (k ≡ Flush → ⊥) → ((n : ℕ) → k ≡ Data n → ⊥) → Err Marker ≡ content_answer k
marker_answer Flush h l = absurd (h refl)
marker_answer Delimiter h l = refl
marker_answer ResponseEnd h l = refl
marker_answer (Data n) h l = absurd (l n refl)

module _ (w : Sight) (p : ℕ) (area : List ℕ) (w₁ : Sight) (area₁ : List ℕ) where
  pub content_fault : (e : LineFault) (r : Result (Option ℕ) LineFault) → Works read w p area (Err e) w₁ area₁ → r ≡ Err e → Works read_content w p area (shown_part area₁ r) w₁ area₁
  content_fault e r s is status = talk_is (ap (shown_part area₁) is) (talk_stop wanted e (s status))

  content_by : (k : Packet ℕ) → Works read w p area (shown area₁ (Ok k)) w₁ area₁ → Works read_content w p area (shown_part area₁ (content_answer k)) w₁ area₁
  content_by Flush s status = talk_then wanted flush (s status) (talk_none (Ok None) w₁ p (areas area₁ status))
  content_by Delimiter s status = talk_then wanted delimiter (s status) (talk_none (Err Marker) w₁ p (areas area₁ status))
  content_by ResponseEnd s status = talk_then wanted response_end (s status) (talk_none (Err Marker) w₁ p (areas area₁ status))
  content_by (Data n) s status = talk_then wanted (line (take n area₁)) (s status) (talk_none (Ok (Some (take n area₁))) w₁ p (areas area₁ status))

  pub content_works : (k : Packet ℕ) (r : Result (Option ℕ) LineFault) → Works read w p area (shown area₁ (Ok k)) w₁ area₁ → r ≡ content_answer k
      → Works read_content w p area (shown_part area₁ r) w₁ area₁
  content_works k r s is status = talk_is (ap (shown_part area₁) is) (content_by k s status)

  pub text_fault : (e : LineFault) (r : Result (Option ℕ) LineFault) → Works read_content w p area (Err e) w₁ area₁ → r ≡ Err e → Works read_text w p area (shown_part area₁ r) w₁ area₁
  text_fault e r s is status = talk_is (ap (shown_part area₁) is) (talk_stop text_in e (s status))

  module _ (o : Option ℕ) (s : Works read_content w p area (shown_part area₁ (Ok o)) w₁ area₁) where
    pub text_none : o ≡ None → Works read_text w p area (shown_part area₁ (Ok None)) w₁ area₁
    text_none is status = talk_then text_in None (talk_is (ap (λ x. shown_part area₁ (Ok x)) (sym is)) (s status)) (talk_none (Ok None) w₁ p (areas area₁ status))

    module _ (n : ℕ) (some : o ≡ Some n) (part : List ℕ) (payload_is : part ≡ take n area₁) where
      text_by : (t : Result (List ℕ) ℕ) (r : Result (Option (List ℕ)) LineFault) → t ≡ text_of part
          → ((status : List ℕ) → Talks (texted t) w₁ p (areas area₁ status) r w₁ (areas area₁ status)) → Works read_text w p area r w₁ area₁
      text_by t r is h status =
          talk_then text_in (Some (take n area₁)) (talk_is (ap (λ x. shown_part area₁ (Ok x)) (sym some)) (s status))
          (subst (λ x. Talks (texted x) w₁ p (areas area₁ status) r w₁ (areas area₁ status)) (is ∙ ap text_of payload_is) (h status))

      pub text_bad : (e : Error) (r : Result (Option ℕ) LineFault) → Err (text_number e) ≡ text_of part → r ≡ Err (Text e) → Works read_text w p area (shown_part area₁ r) w₁ area₁
      text_bad NotUtf8 r is told =
          text_by (Err (text_number NotUtf8)) (shown_part area₁ r) is (λ status. talk_is (ap (shown_part area₁) told) (talk_none (Err (Text NotUtf8)) w₁ p (areas area₁ status)))

      module _ (t : List ℕ) (law : IsText part (Ok t)) where
        pub text_short : length t ≤ n
        text_short =
            let parts : length (take n area₁) ≡ length t + length law.1.back = ap length (sym payload_is ∙ law.1.whole) ∙ length-append t law.1.back in
            let few : length (take n area₁) ≤ n = simp length-take (omega arith) in
            omega (arith, parts, few)

        lies : take (length t) area₁ ≡ t
        lies =
            sym (take-take (length t) n area₁ text_short) ∙ ap (take (length t)) (sym payload_is ∙ law.1.whole) ∙ take_at t law.1.back (length t) refl

        pub text_works : Ok t ≡ text_of part → Works read_text w p area (shown_part area₁ (Ok (Some (length t)))) w₁ area₁
        text_works is =
            text_by (Ok t) (Ok (Some (take (length t) area₁))) is
            (λ status. talk_is (ap (λ x. Ok (Some x)) lies) (talk_none (Ok (Some t)) w₁ p (areas area₁ status)))
