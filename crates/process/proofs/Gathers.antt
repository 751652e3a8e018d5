-- Reading on, as a loop does it.
use Rattle.std.proofs.Common.{◌≡◌, ℕ, zero, suc, ◌<◌, ◌≤◌, List, [], ◌++◌, length, Some, None, Ok, Err, Option, Result, sym, refl, ap, ◌∙◌, subst, arith}
use Rattle.std.proofs.lemmas.List.{append_assoc, append-nil}
use Rattle.packetline.specs.Packets.{Pkt, flush, delimiter, response_end, line, Front, whole, bad, short, front}
use Rattle.packetline.specs.Text.{text_of}
use Rattle.packetline.proofs.Decoding.{shorter}
use Rattle.host.specs.declared.fault.LineFault.{LineFault}
use Rattle.host.specs.Worlds.{Process, gone, live, process, waiting_of, waiting_now, waits}
use Rattle.host.specs.Talk.{Event, Areas, lay, Wire, wire, Got, got, lost, then, ends, hear, read, wanted, read_content, texted, text_in, read_text, Sight, Acted, Talks}
use Rattle.host.proofs.Logging.{grows_none, grows_then}
use Rattle.host.proofs.Takes.{with_same}
use Rattle.host.proofs.Talking.{lay_append, acted_append, talk_then, talk_stop}
use Rattle.process.specs.Gather.{Turn, goes, stops, turned, gather_in, gather}

-- A packet that is read leaves fewer bytes waiting.

abbrev pub Leaves : {A : Type 0} → ℕ → Got A → Type 0
Leaves n (got x v) = length (waiting_of v.end) < n
Leaves n (lost f v) = Unit {0}

leaves_then : {A B : Type 0} (n : ℕ) (g : Got A) (k : A → Wire → Got B) → Leaves n g → ((x : A) (v : Wire) → length (waiting_of v.end) < n → Leaves n (k x v)) → Leaves n (then g k)
leaves_then n (got x v) k h on = on x v h
leaves_then n (lost f v) k h on = tt

length_now : (ws : List ℕ) (q : Process) → length (waiting_of (waiting_now ws q)) ≤ length ws
length_now ws gone = omega arith
length_now ws (live q) = omega arith

leaves_hear : (ws : List ℕ) (f : Front) (v : Wire) → front ws ≡ f → Leaves (length ws) (hear f v)
leaves_hear ws (whole p b rest) v e = let h = shorter ws p b rest e in let k = length_now rest v.end in omega arith
leaves_hear ws (bad b rest) v e = tt
leaves_hear ws short v e = tt

pub leaves_read : (v : Wire) → Leaves (length (waiting_of v.end)) (read v)
leaves_read v = leaves_hear (waiting_of v.end) (front (waiting_of v.end)) v refl

leaves_wanted : (n : ℕ) (p : Pkt) (v : Wire) → length (waiting_of v.end) < n → Leaves n (wanted p v)
leaves_wanted n flush v h = h
leaves_wanted n delimiter v h = tt
leaves_wanted n response_end v h = tt
leaves_wanted n (line l) v h = h

leaves_texted : (n : ℕ) (r : Result (List ℕ) ℕ) (v : Wire) → length (waiting_of v.end) < n → Leaves n (texted r v)
leaves_texted n (Ok t) v h = h
leaves_texted n (Err e) v h = tt

leaves_text : (n : ℕ) (o : Option (List ℕ)) (v : Wire) → length (waiting_of v.end) < n → Leaves n (text_in o v)
leaves_text n None v h = h
leaves_text n (Some l) v h = leaves_texted n (text_of l) v h

pub leaves_read_content : (v : Wire) → Leaves (length (waiting_of v.end)) (read_content v)
leaves_read_content v = let n = length (waiting_of v.end) in leaves_then n (read v) wanted (leaves_read v) (leaves_wanted n)

pub leaves_read_text : (v : Wire) → Leaves (length (waiting_of v.end)) (read_text v)
leaves_read_text v = let n = length (waiting_of v.end) in leaves_then n (read_content v) text_in (leaves_read_content v) (leaves_text n)

-- A reading goes on from where it stands: how many turns it had left does not matter.

module _ {S X A : Type 0} (reader : Wire → Got X) (step : S → X → Turn S A) where
  turned_same : (a b : S → Wire → Got A) (n : ℕ) → ((s : S) (u : Wire) → length (waiting_of u.end) < n → a s u ≡ b s u) → (t : Turn S A) (u : Wire) → length (waiting_of u.end) < n
      → turned a t u ≡ turned b t u
  turned_same a b n same (goes s es) u h = same s (wire u.end u.later (es ++ u.events)) h
  turned_same a b n same (stops x) u h = refl

  then_same : (a b : S → Wire → Got A) (n : ℕ) → ((s : S) (u : Wire) → length (waiting_of u.end) < n → a s u ≡ b s u) → (s : S) (g : Got X) → Leaves n g
      → then g (λ x u. turned a (step s x) u) ≡ then g (λ x u. turned b (step s x) u)
  then_same a b n same s (got x u) h = turned_same a b n same (step s x) u h
  then_same a b n same s (lost f u) h = refl

  module _ (leaves : (v : Wire) → Leaves (length (waiting_of v.end)) (reader v)) where
    turns_same : (k m : ℕ) (s : S) (v : Wire) → length (waiting_of v.end) < k → length (waiting_of v.end) < m → gather_in reader step k s v ≡ gather_in reader step m s v
    turns_same zero m s v h l = absurd (omega arith)
    turns_same (suc k) zero s v h l = absurd (omega arith)
    turns_same (suc k) (suc m) s v h l =
        then_same (gather_in reader step k) (gather_in reader step m) (length (waiting_of v.end)) (λ s' u i. turns_same k m s' u (omega arith) (omega arith)) s (reader v) (leaves v)

    -- one turn, and what is left of the reading then
    pub gather_on : (s : S) (v : Wire) → gather reader step s v ≡ then (reader v) (λ x u. turned (gather reader step) (step s x) u)
    unfolding gather
    gather_on s v =
        let n = length (waiting_of v.end) in
        then_same (gather_in reader step n) (gather reader step) n (λ s' u i. turns_same n (suc (length (waiting_of u.end))) s' u i (omega arith)) s (reader v) (leaves v)

-- the same of a call on a host
falls : {X : Type 0} (reader : Wire → Got X) → ((v : Wire) → Leaves (length (waiting_of v.end)) (reader v))
    → {w : Sight} {p : ℕ} {a : Areas} {x : X} {w₁ : Sight} {a₁ : Areas} → Talks reader w p a (Ok x) w₁ a₁ → length (waits w₁.world p) < length (waits w.world p)
falls reader leaves {w = w} {p = p} t =
    let l = t.goes (λ _ _ _. []) in
    subst (Leaves (length (waits w.world p))) (l.1 []) (leaves (wire (process w.world p) l.0 []))

pub read_falls : {w : Sight} {p : ℕ} {a : Areas} {x : Pkt} {w₁ : Sight} {a₁ : Areas} → Talks read w p a (Ok x) w₁ a₁ → length (waits w₁.world p) < length (waits w.world p)
read_falls t = falls read leaves_read t

pub text_falls : {w : Sight} {p : ℕ} {a : Areas} {x : Option (List ℕ)} {w₁ : Sight} {a₁ : Areas} → Talks read_text w p a (Ok x) w₁ a₁ → length (waits w₁.world p) < length (waits w.world p)
text_falls t = falls read_text leaves_read_text t

-- The loop

regroup : (a b c d : List Event) → ((a ++ b) ++ c) ++ d ≡ a ++ (b ++ (c ++ d))
regroup a b c d = simp append_assoc

module _ {S X A : Type 0} (reader : Wire → Got X) (step : S → X → Turn S A) where
  -- what is left of a reading f from state s on, after these events: however it goes on from here, so went f from the start
  pub record Left (s : S) (es : List Event) (w : Sight) (p : ℕ) (a : Areas) (f : Wire → Got A) (w₀ : Sight) (a₀ : Areas) : Type 0 where
    pub turns : ℕ
    pub enough : length (waits w.world p) < turns
    pub on : (r : Result A LineFault) (w' : Sight) (a' : Areas) (t : Talks (gather_in reader step turns s) w p a r w' a') → (u : Talks f w₀ p a₀ r w' a') × (u.events ≡ t.events ++ es)

  pub left_first : (s : S) (w : Sight) (p : ℕ) (a : Areas) → Left s [] w p a (gather reader step s) w a
  unfolding gather
  left_first s w p a =
      record {
        turns = suc (length (waits w.world p));
        enough = omega arith;
        on = λ r w' a' t. (
          record { events = t.events; goes = t.goes; others = t.others; laid = t.laid; acts = t.acts; acted = t.acted; grows = t.grows },
          sym (append-nil t.events),
        );
      }

  module _ (s : S) (w : Sight) (p : ℕ) (a : Areas) (f : Wire → Got A) (w₀ : Sight) (a₀ : Areas) (w₁ : Sight) (a₁ : Areas) where
    -- one turn more is left
    ReadOn : List Event → Type 0
    ReadOn es =
        (k : ℕ) × (length (waits w.world p) ≤ k)
        × ((r : Result A LineFault) (w' : Sight) (a' : Areas) (t : Talks (λ v. then (reader v) (λ x u. turned (gather_in reader step k) (step s x) u)) w p a r w' a')
        → (u : Talks f w₀ p a₀ r w' a') × (u.events ≡ t.events ++ es))

    read_on : (es : List Event) (turns : ℕ) → length (waits w.world p) < turns
        → ((r : Result A LineFault) (w' : Sight) (a' : Areas) (t : Talks (gather_in reader step turns s) w p a r w' a') → (u : Talks f w₀ p a₀ r w' a') × (u.events ≡ t.events ++ es))
        → ReadOn es
    unfolding ReadOn
    read_on es zero few on = absurd (omega arith)
    read_on es (suc k) few on = (k, omega arith, on)

    pub left_fault : {es : List Event} → Left s es w p a f w₀ a₀ → (e : LineFault) (t : Talks reader w p a (Err e) w₁ a₁) → (u : Talks f w₀ p a₀ (Err e) w₁ a₁) × (u.events ≡ t.events ++ es)
    unfolding ReadOn talk_stop
    left_fault {es} left e t =
        let n = read_on es left.turns left.enough left.on in
        n.2 (Err e) w₁ a₁ (talk_stop (λ x u. turned (gather_in reader step n.0) (step s x) u) e t)

    pub left_stop : {es : List Event} → Left s es w p a f w₀ a₀ → (x : X) (b : A) (t : Talks reader w p a (Ok x) w₁ a₁) → step s x ≡ stops b → (u : Talks f w₀ p a₀ (Ok b) w₁ a₁) × (u.events ≡ t.events ++ es)
    unfolding ReadOn talk_then
    left_stop {es} left x b t e =
        let n = read_on es left.turns left.enough left.on in
        let more = gather_in reader step n.0 in
        n.2 (Ok b) w₁ a₁
        (talk_then (λ y u. turned more (step s y) u) x t
        (record {
          events = [];
          goes = λ rest. (rest, λ past. ap (λ c. turned more c (wire (process w₁.world p) rest past)) e);
          others = sym (with_same w₁.world p);
          laid = refl;
          acts = [];
          acted = refl;
          grows = grows_none w₁.log;
        }))

    pub left_more : {es : List Event} → Left s es w p a f w₀ a₀ → (x : X) (s' : S) (ns : List Event) (a₂ : Areas) (t : Talks reader w p a (Ok x) w₁ a₁) → step s x ≡ goes s' ns → a₂ ≡ lay ns a₁ → Acted p ns []
        → length (waits w₁.world p) < length (waits w.world p) → Left s' (ns ++ (t.events ++ es)) w₁ p a₂ f w₀ a₀
    unfolding ReadOn talk_then
    left_more {es} left x s' ns a₂ t e laid quiet less =
        let n = read_on es left.turns left.enough left.on in
        let more = gather_in reader step n.0 in
        record {
          turns = n.0;
          enough = omega (arith, less, n.1);
          on = λ r w' a' t'.
              let whole = n.2 r w' a'
              (talk_then (λ y u. turned more (step s y) u) x t
              (record {
                events = t'.events ++ ns;
                goes = λ rest.
                    let l = t'.goes rest in (
                      l.0,
                      λ past. ap (λ c. turned more c (wire (process w₁.world p) l.0 past)) e ∙ l.1 (ns ++ past)
                          ∙ ap (λ es'. ends r (wire (process w'.world p) rest es')) (sym (append_assoc t'.events ns past)),
                    );
                others = t'.others;
                laid = t'.laid ∙ ap (lay t'.events) laid ∙ sym (lay_append t'.events ns a₁);
                acts = t'.acts ++ [];
                acted = acted_append p t'.events ns t'.acts [] t'.acted quiet;
                grows = grows_then w₁.log w₁.log w'.log [] t'.acts (grows_none w₁.log) t'.grows;
              })) in (
                whole.0,
                whole.1 ∙ regroup t'.events ns t.events es,
              );
        }
