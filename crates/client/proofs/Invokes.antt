-- An exchange.
use Rattle.std.proofs.Common.{◌≡◌, ℕ, List, [], ◌∷◌, ◌++◌, map, Ok, Err, Result, sym, refl, ap, ◌∙◌, subst, arith}
use Rattle.std.proofs.lemmas.List.{append-nil}
use Rattle.packetline.specs.Packets.{Pkt, flush, line, Decoded, packets, flushes_of}
use Rattle.host.specs.declared.fault.LineFault.{LineFault}
use Rattle.host.specs.declared.peer.Peer.{Peer}
use Rattle.host.specs.Worlds.{World}
use Rattle.host.specs.Acts.{Log}
use Rattle.host.specs.Peers.{Does}
use Rattle.host.specs.Parts.{parts}
use Rattle.host.specs.Talk.{bytes_sent, bytes_given, Areas, areas, Wire, Got, got, lost, then, send, send_all, Sight, Talks, Works}
use Rattle.host.proofs.Talking.{talk_none, talk_then, talk_stop, talk_is}
use Rattle.host.proofs.Peering.{begun, does_then, does_stop}
use Rattle.client.specs.declared.invoke.Meta.{Meta}
use Rattle.process.specs.declared.status.Status.{Status}
use Rattle.process.specs.Given.{TalksBy}
use Rattle.process.specs.Statuses.{first, read_status, StatusLines, StatusLaw}
use Rattle.client.specs.Requests.{request, content_packets, as_first, status_then, content_then, invoked, InvokeLaw}
use Rattle.process.proofs.Lines.{sent_last}
use Rattle.process.proofs.Passes.{Passes, passes_then, passes_got, send_all_passes, Told, told_by_talk}
use Rattle.process.proofs.Tellings.{reads_same, status_passes, one_flush, status_same}

-- Packets in two lists

then_both : (g : Got (Unit {0})) (ps qs : List Pkt) → ((u : Wire) → send_all (ps ++ qs) u ≡ then (send_all ps u) (λ _ x. send_all qs x))
    → then g (λ _ u. send_all (ps ++ qs) u) ≡ then (then g (λ _ u. send_all ps u)) (λ _ u. send_all qs u)
then_both (got a u) ps qs on = on u
then_both (lost f u) ps qs on = refl

send_append : (ps qs : List Pkt) (v : Wire) → send_all (ps ++ qs) v ≡ then (send_all ps v) (λ _ u. send_all qs u)
send_append [] qs v = refl
send_append (p ∷ ps) qs v = then_both (send p v) ps qs (λ u. send_append ps qs u)

-- a talk that goes alike
talk_same : {A : Type 0} {f g : Wire → Got A} {w : Sight} {p : ℕ} {a : Areas} {r : Result A LineFault} {w' : Sight} {a' : Areas} → ((v : Wire) → g v ≡ f v) → Talks f w p a r w' a' → Talks g w p a r w' a'
talk_same e t =
    record {
      events = t.events;
      goes = λ rest. let l = t.goes rest in (l.0, λ past. e _ ∙ l.1 past);
      others = t.others;
      laid = t.laid;
      acts = t.acts;
      acted = t.acted;
      grows = t.grows;
    }

abbrev flush_then : Unit {0} → Wire → Got (Unit {0})
flush_then _ v = send_all (flush ∷ []) v

module _ {H : Type 0} {log : H → Log} {world : H → World} (c : List ℕ) where
  body_same : {p p' : Peer H} {r : Result (Unit {0}) LineFault} → Does log world (λ v. then (send_all (map line (parts c)) v) flush_then) p r p' → Does log world (send_all (content_packets c)) p r p'
  body_same s = record { lent = s.lent; talks = λ status. talk_same (send_append (map line (parts c)) (flush ∷ [])) (s.talks status) }

  pub body_stop : {p p₁ : Peer H} (e : LineFault) (r : Result (Unit {0}) LineFault) → Does log world (send_all (map line (parts c))) p (Err e) p₁ → r ≡ Err e → Does log world (send_all (content_packets c)) p r p₁
  body_stop e r s is = body_same (does_stop flush_then e r s is)

  pub body_end : {p p₁ p₂ : Peer H} (u : Unit {0}) {r : Result (Unit {0}) LineFault} → Does log world (send_all (map line (parts c))) p (Ok u) p₁ → Does log world (send flush) p₁ r p₂
      → Does log world (send_all (content_packets c)) p r p₂
  body_end u s t = body_same (does_then flush_then u s (sent_last {x = flush} (begun {left = flush ∷ []} refl) refl t))

-- What an exchange tells

-- lines were sent and content, and then a status was told
module _ (lines : List Pkt) (content : List ℕ) where
  abbrev pub Exchanged : List Pkt → List Pkt → Status → Type 0
  Exchanged gs ss s = (ss ≡ lines ++ content_packets content) × ((s₀ : Status) × StatusLines gs s₀ × (s ≡ first s₀))

  abbrev pub NotExchanged : List Pkt → List Pkt → Type 0
  NotExchanged gs ss = flushes_of gs ≡ 0

  pub exchange_passes : (v : Wire) → Passes Exchanged NotExchanged v (then (send_all lines v) (content_then content))
  exchange_passes v =
      passes_then (content_then content) v (send_all lines v) (send_all_passes lines v)
      (λ gs ss a u h.
      passes_then status_then u (send_all (content_packets content) u) (send_all_passes (content_packets content) u)
      (λ hs ts b x k.
      passes_then as_first x (read_status x) (status_passes x)
      (λ is us s y m.
      let none : gs ++ (hs ++ (is ++ [])) ≡ is = ap (λ xs. xs ++ (hs ++ (is ++ []))) h.0 ∙ ap (λ xs. xs ++ (is ++ [])) k.0 ∙ append-nil is in
      let all : ss ++ (ts ++ (us ++ [])) ≡ lines ++ content_packets content =
      ap (λ xs. xs ++ (ts ++ (us ++ []))) h.1 ∙ ap (λ xs. lines ++ xs) (ap (λ xs. ts ++ (xs ++ [])) m.0 ∙ append-nil ts ∙ k.1) in
      passes_got (first s) y (all, (s, subst (λ ps. StatusLines ps s) (sym none) m.1, refl)))
      (λ is us m. ap flushes_of (ap (λ xs. xs ++ (hs ++ is)) h.0 ∙ ap (λ xs. xs ++ is) k.0) ∙ m.1))
      (λ hs ts k. ap flushes_of (ap (λ xs. xs ++ hs) h.0 ∙ k)))
      (λ gs ss h. ap flushes_of h)

module _ (command : List ℕ) (ms : List Meta) (content : List ℕ) where
  abbrev InvokePassed : List Pkt → List Pkt → Status → Type 0
  InvokePassed = Exchanged (request command ms) content

  abbrev NotInvoked : List Pkt → List Pkt → Type 0
  NotInvoked = NotExchanged (request command ms) content

  invoke_passes : (v : Wire) → Passes InvokePassed NotInvoked v (invoked command ms content v)
  invoke_passes v = exchange_passes (request command ms) content v

  no_zero : (n : ℕ) → n ≡ 0 → n ≡ 1 → ⊥
  no_zero n a b = omega arith

  law_by : (sent given : List ℕ) (r : Result Status LineFault) → Told InvokePassed NotInvoked sent given r → InvokeLaw command ms content sent given r
  law_by sent given (Ok s) (gs, (ss, reads, said, h)) =
      record {
        says = λ x e. said ∙ ap packets h.0;
        only = λ x e. let same : x ≡ s = cc in (gs, (h.1.0, reads, h.1.1, same ∙ h.1.2));
        all = λ ps s₀ e k.
            ap (λ y. Ok y) (h.1.2 ∙ ap first (status_same gs h.1.0 s₀ h.1.1 (subst (λ qs. StatusLines qs s₀) (reads_same given ps gs e reads) k)));
      }
  law_by sent given (Err f) (gs, (ss, reads, said, h)) =
      record {
        says = λ x e. let z : ◌≡◌ {A = ℕ} 0 1 = cc in absurd (omega arith);
        only = λ x e. let z : ◌≡◌ {A = ℕ} 0 1 = cc in absurd (omega arith);
        all = λ ps s₀ e k.
            let same : gs ≡ ps = sym reads ∙ ap (λ (y : Decoded). y.packets) e in
            absurd (no_zero (flushes_of ps) (ap flushes_of (sym same) ∙ h) (one_flush ps s₀ k));
      }

  abbrev Goes : Sight → ℕ → Areas → Result Status LineFault → Sight → Areas → Type 0
  Goes w p a r w' a' = TalksBy (InvokeLaw command ms content) (invoked command ms content) w p a r w' a'

  -- an exchange has its law
  invoke_talk : {w : Sight} {p : ℕ} {a : Areas} {r : Result Status LineFault} {w' : Sight} {a' : Areas} → Talks (invoked command ms content) w p a r w' a' → Goes w p a r w' a'
  invoke_talk {r = r} t = (t, law_by (bytes_sent t.events) (bytes_given t.events) r (told_by_talk InvokePassed NotInvoked (invoked command ms content) invoke_passes t))

  -- The exchange, call by call

  module _ (w : Sight) (p : ℕ) (work status : List ℕ) (w₁ : Sight) (work₁ : List ℕ) where
    pub invoke_unasked : (r : Result Status LineFault) (e : LineFault) → Works (send_all (request command ms)) w p work (Err e) w₁ work₁ → r ≡ Err e → Goes w p (areas work status) r w₁ (areas work₁ status)
    invoke_unasked r e s is = invoke_talk (talk_is is (talk_stop (content_then content) e (s status)))

    module _ (u : Unit {0}) (s : Works (send_all (request command ms)) w p work (Ok u) w₁ work₁) (w₂ : Sight) (work₂ : List ℕ) where
      pub invoke_unsent : (r : Result Status LineFault) (e : LineFault) → Works (send_all (content_packets content)) w₁ p work₁ (Err e) w₂ work₂ → r ≡ Err e
          → Goes w p (areas work status) r w₂ (areas work₂ status)
      invoke_unsent r e t is = invoke_talk (talk_is is (talk_then (content_then content) u (s status) (talk_stop status_then e (t status))))

      module _ (u₂ : Unit {0}) (t : Works (send_all (content_packets content)) w₁ p work₁ (Ok u₂) w₂ work₂) (w₃ : Sight) (work₃ status₃ : List ℕ) where
        pub invoke_untold : (r : Result Status LineFault) (e : LineFault) → TalksBy StatusLaw read_status w₂ p (areas work₂ status) (Err e) w₃ (areas work₃ status₃) → r ≡ Err e
            → Goes w p (areas work status) r w₃ (areas work₃ status₃)
        invoke_untold r e h is =
            invoke_talk (talk_is is (talk_then (content_then content) u (s status) (talk_then status_then u₂ (t status) (talk_stop as_first e h.0))))

        pub invoke_told : (s₀ s₁ : Status) → TalksBy StatusLaw read_status w₂ p (areas work₂ status) (Ok s₀) w₃ (areas work₃ status₃) → s₁ ≡ first s₀
            → Goes w p (areas work status) (Ok s₁) w₃ (areas work₃ status₃)
        invoke_told s₀ s₁ h is =
            invoke_talk
            (talk_is (ap (λ x. Ok x) is)
            (talk_then (content_then content) u (s status) (talk_then status_then u₂ (t status) (talk_then as_first s₀ h.0 (talk_none (Ok (first s₀)) w₃ p (areas work₃ status₃))))))
