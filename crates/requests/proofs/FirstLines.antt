-- The first line of a request, as it is read.
use Rattle.std.proofs.Common.{◌≡◌, ℕ, List, length, take, Some, None, Ok, Err, Option, Result, sym, refl, ap, ◌∙◌, subst, arith}
use Rattle.std.specs.Option.{option_map}
use Rattle.std.proofs.lemmas.List.{take_at}
use Rattle.host.specs.declared.fault.Fault.TheVariants.{Closed, Broken, Other}
use Rattle.host.specs.declared.fault.LineFault.{LineFault}
use Rattle.host.specs.declared.fault.LineFault.TheVariants.{Host, Packet, Marker, Text}
use Rattle.host.specs.Talk.{areas, read_text, shown_part, Sight, Works}
use Rattle.host.proofs.Talking.{talk_made, talk_is}
use Rattle.requests.specs.declared.fault.RequestFault.{RequestFault}
use Rattle.requests.specs.declared.fault.RequestFault.TheVariants.{Command}
use Rattle.requests.specs.Requests.{command_in, unasked, begun, heard, StoresCommand, CommandLies, ReadsCommand}

-- no fault asks anything
pub never : {A : Type 0} (e : LineFault) (x : A) → ◌≡◌ {A = Result (Result (Option A) ℕ) LineFault} (Ok (Ok (Some x))) (unasked e) → ⊥
never (Host Closed) x h = let z : ◌≡◌ {A = ℕ} 0 1 = cc in omega arith
never (Host Broken) x h = let z : ◌≡◌ {A = ℕ} 0 1 = cc in omega arith
never (Host Other) x h = let z : ◌≡◌ {A = ℕ} 0 1 = cc in omega arith
never (Packet e) x h = let z : ◌≡◌ {A = ℕ} 0 1 = cc in omega arith
never Marker x h = let z : ◌≡◌ {A = ℕ} 0 1 = cc in omega arith
never (Text e) x h = let z : ◌≡◌ {A = ℕ} 0 1 = cc in omega arith

untouched : (text : List ℕ) (e : LineFault) (r : Result (Option ℕ) RequestFault) → heard (option_map (λ n. take n text)) r ≡ unasked e → CommandLies text r text
untouched text e (Ok None) h = refl
untouched text e (Ok (Some n)) h = absurd (never e (take n text) h)
untouched text e (Err f) h = refl

module _ (text : List ℕ) (w : Sight) (p : ℕ) (work status : List ℕ) (w₁ : Sight) (work₁ : List ℕ) where
  pub first_fault : (r : Result (Option ℕ) RequestFault) (e : LineFault) → Works read_text w p work (Err e) w₁ work₁ → heard (option_map (λ n. take n text)) r ≡ unasked e
      → ReadsCommand text w p (areas work status) r w₁ (areas work₁ status) text
  first_fault r e s is =
      record {
        talks = talk_is is (talk_made (begun (command_in (length text))) (Err e) (unasked e) (λ v. refl) (s status));
        lies = untouched text e r is;
      }

  module _ (o : Option ℕ) (s : Works read_text w p work (shown_part work₁ (Ok o)) w₁ work₁) where
    pub first_flush : o ≡ None → ReadsCommand text w p (areas work status) (Err Command) w₁ (areas work₁ status) text
    first_flush e =
        record {
          talks =
              talk_made (begun (command_in (length text))) (Ok None) (Ok (Err 39)) (λ v. refl) (talk_is (ap (λ x. shown_part work₁ (Ok x)) (sym e)) (s status));
          lies = refl;
        }

    module _ (n : ℕ) (some : o ≡ Some n) (part : List ℕ) (front : part ≡ take n work₁) (text' : List ℕ) where
      judged : (r : Result (Option ℕ) RequestFault) → heard (option_map (λ k. take k text')) r ≡ Ok (command_in (length text) (Some part)) → CommandLies text r text'
          → ReadsCommand text w p (areas work status) r w₁ (areas work₁ status) text'
      judged r is lies =
          record {
            talks =
                talk_is is
                (talk_made (begun (command_in (length text))) (Ok (Some part)) (Ok (command_in (length text) (Some part))) (λ v. refl)
                (talk_is (ap (λ l. Ok (Some l)) front ∙ ap (λ x. shown_part work₁ (Ok x)) (sym some)) (s status)));
            lies = lies;
          }

      pub first_refused : (v : Result ℕ RequestFault) → StoresCommand text part v text' → (e : RequestFault) → v ≡ Err e → (r : Result (Option ℕ) RequestFault) → r ≡ Err e
          → ReadsCommand text w p (areas work status) r w₁ (areas work₁ status) text'
      first_refused v h e was r is =
          let k = subst (λ x. StoresCommand text part x text') was h in
          subst (λ x. ReadsCommand text w p (areas work status) x w₁ (areas work₁ status) text') (sym is) (judged (Err e) k.0 k.1)

      pub first_stored : (k : ℕ) → StoresCommand text part (Ok k) text' → ReadsCommand text w p (areas work status) (Ok (Some k)) w₁ (areas work₁ status) text'
      first_stored k (c, is, long, room, lies) =
          let shown : take k text' ≡ c = ap (take k) lies ∙ take_at c _ k (sym long) in
          judged (Ok (Some k)) (ap (λ x. Ok (Ok (Some x))) shown ∙ ap (λ x. Ok x) (sym is)) (c, long, room, lies)
