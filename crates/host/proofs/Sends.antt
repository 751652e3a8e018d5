-- A packet that lies at the front of an area is sent.
use Rattle.std.proofs.Common.{◌≡◌, ℕ, zero, suc, ◌+◌, ◌-◌, ◌<◌, Bool, true, false, cond, leb, List, [], ◌∷◌, map, length, get_or, take, drop, Ok, Err, Result, sym, refl, ap, ◌∙◌, subst, arith}
use Rattle.std.proofs.lemmas.List.{take_at, drop_more}
use Rattle.std.proofs.lemmas.Bool.{and_parts}
use Rattle.packetline.specs.Packets.{Pkt, sendable, packet, all_sendable, over}
use Rattle.host.specs.declared.fault.Fault.{Fault}
use Rattle.host.specs.declared.fault.LineFault.{LineFault}
use Rattle.host.specs.declared.fault.LineFault.TheVariants.{Host}
use Rattle.host.specs.Worlds.{Reply, Pipe, Process, gone, live, World, process, with_process}
use Rattle.host.specs.Acts.{Sent, sent_to, refusal_of, sending, Log, Grows}
use Rattle.host.specs.Talk.{took, refused, areas, Later, Wire, wire, Got, got, lost, sent_by, send, send_all, Sight, sight, Works}
use Rattle.host.proofs.Takes.{process_with, with_same}
use Rattle.host.proofs.Talking.{talk_is, LeadsWork, leads_more, leads_stop, leads_end}

-- a reply before those to come
abbrev before : Reply → Later → Later
before l later zero = l
before l later (suc n) = later n

fits_or_not : (q : Pipe) (b : Bool) (x : Process) (s e : Fault) → ◌≡◌ {A = Result (Unit {0}) Fault} (cond b (Ok tt) (Err s)) (Err e) → cond b x (live q) ≡ live q
fits_or_not q true x s e h = let z : ◌≡◌ {A = ℕ} 0 1 = cc in absurd (omega arith)
fits_or_not q false x s e h = refl

-- a send that is refused changes nothing
refused_to : (q : Process) (b : List ℕ) (l : Reply) (e : Fault) → refusal_of q (length b) ≡ Err e → sent_to q b l ≡ q
refused_to gone b l e h = refl
refused_to (live q) b l e h = fits_or_not q (leb (length b) q.allowance) _ _ e h

abbrev pub hosted : Result (Unit {0}) Fault → Result (Unit {0}) LineFault
hosted (Ok u) = Ok u
hosted (Err f) = Err (Host f)

module _ (w : World) (p : ℕ) (x : Pkt) (area : List ℕ) (w' : World) (area' : List ℕ) (g g' : Log) (laid : area' ≡ over (packet x) area) where
  send_works : (r : Result (Unit {0}) Fault) → Sent w p (packet x) r w' → Grows g (sending p (packet x) r ∷ []) g' → Works (send x) (sight g w) p area (hosted r) (sight g' w') area'
  send_works (Ok u) s k status =
      let b = packet x in
      let at : process w' p ≡ sent_to (process w p) b s.later = ap (λ v. process v p) s.after ∙ process_with w p (λ q. sent_to q b s.later) refl in
      record {
        events = took b ∷ [];
        goes = λ rest. (
          before s.later rest,
          λ past. ap (λ y. sent_by y b (wire (process w p) (before s.later rest) past)) (sym s.answer) ∙ ap (λ q. got tt (wire q rest (took b ∷ past))) (sym at),
        );
        others = s.after ∙ ap (with_process w p) (sym at);
        laid = ap (λ l. areas l status) laid;
        acts = sending p b (Ok u) ∷ [];
        acted = ([], refl, refl);
        grows = k;
      }
  send_works (Err f) s k status =
      let b = packet x in
      let same : w' ≡ w = s.after ∙ ap (with_process w p) (refused_to (process w p) b s.later f (sym s.answer)) ∙ with_same w p in
      record {
        events = refused b ∷ [];
        goes = λ rest. (
          rest,
          λ past. ap (λ y. sent_by y b (wire (process w p) rest past)) (sym s.answer) ∙ ap (λ v. lost (Host f) (wire (process v p) rest (refused b ∷ past))) (sym same),
        );
        others = same ∙ sym (with_same w p) ∙ ap (λ v. with_process w p (process v p)) (sym same);
        laid = ap (λ l. areas l status) laid;
        acts = sending p b (Err f) ∷ [];
        acted = (f, ([], refl, refl));
        grows = k;
      }

  -- the same of the area's front, which is that packet
  pub front_works : (n : ℕ) → n ≡ length (packet x) → (r : Result (Unit {0}) Fault) (r' : Result (Unit {0}) LineFault) → Sent w p (take (n - 0) area') r w'
      → Grows g (sending p (take (n - 0) area') r ∷ []) g' → r' ≡ hosted r → Works (send x) (sight g w) p area r' (sight g' w') area'
  front_works n long r r' s k is status =
      let z : n - 0 ≡ length (packet x) = omega arith in
      let front : take (n - 0) area' ≡ packet x = ap (take (n - 0)) laid ∙ take_at (packet x) (drop (length (packet x)) area) (n - 0) (sym z) in
      talk_is is (send_works r (subst (λ b. Sent w p b r w') front s) (subst (λ b. Grows g (sending p b r ∷ []) g') front k) status)

-- packets that are left to send: one and then others, or none
module _ (w : Sight) (p : ℕ) (work : List ℕ) (f : Wire → Got (Unit {0})) (w₀ : Sight) (work₀ : List ℕ) {left : List Pkt} where
  known : {xs : List Pkt} → left ≡ xs → LeadsWork (send_all left) w p work f w₀ work₀ → LeadsWork (send_all xs) w p work f w₀ work₀
  known e on = subst (λ xs. LeadsWork (send_all xs) w p work f w₀ work₀) e on

  module _ {x : Pkt} {xs : List Pkt} (next : left ≡ x ∷ xs) (on : LeadsWork (send_all left) w p work f w₀ work₀) (w₁ : Sight) (work₁ : List ℕ) where
    pub packet_more : (u : Unit {0}) → Works (send x) w p work (Ok u) w₁ work₁ → LeadsWork (send_all xs) w₁ p work₁ f w₀ work₀
    packet_more u s status = leads_more (λ _ v. send_all xs v) (known next on status) u (s status)

    pub packet_stop : (e : LineFault) (r : Result (Unit {0}) LineFault) → Works (send x) w p work (Err e) w₁ work₁ → r ≡ Err e → Works f w₀ p work₀ r w₁ work₁
    packet_stop e r s is status = talk_is is (leads_stop (λ _ v. send_all xs v) (known next on status) e (s status))

  pub packets_end : left ≡ [] → LeadsWork (send_all left) w p work f w₀ work₀ → Works f w₀ p work₀ (Ok tt) w work
  packets_end none on status = leads_end tt (known none on status)

-- lines from the i-th on
pub lines_more : {X : Type 0} (f : X → Pkt) (lines : List X) (i : ℕ) (d : X) → i < length lines → map f (drop i lines) ≡ f (get_or lines i d) ∷ map f (drop (i + 1) lines)
lines_more f lines i d h = ap (map f) (drop_more lines i d h)

-- each of the packets that can be sent can be
pub each_sendable : {X : Type 0} (f : X → Pkt) (lines : List X) (i : ℕ) (d : X) → all_sendable (map f lines) ≡ true → i < length lines → sendable (f (get_or lines i d)) ≡ true
each_sendable f [] i d h k = absurd (omega arith)
each_sendable f (x ∷ lines) zero d h k = (and_parts (sendable (f x)) (all_sendable (map f lines)) h).0
each_sendable f (x ∷ lines) (suc i) d h k = each_sendable f lines i d (and_parts (sendable (f x)) (all_sendable (map f lines)) h).1 (omega arith)
