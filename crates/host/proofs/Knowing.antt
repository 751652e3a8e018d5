-- Processes whose replies to come are all known: nothing that a host leaves free has a part in what a call does with them.
use Rattle.std.proofs.Common.{◌≡◌, ℕ, suc, ◌-◌, ◌≤◌, Bool, true, false, cond, leb, List, [], ◌∷◌, ◌++◌, length, Ok, Err, Result, sym, refl, ap, ◌∙◌}
use Rattle.std.proofs.lemmas.List.{append-nil}
use Rattle.std.proofs.lemmas.Bool.{le-leb}
use Rattle.packetline.specs.Packets.{Pkt, packet}
use Rattle.host.specs.declared.fault.LineFault.{LineFault}
use Rattle.host.specs.Faults.{snag_fault}
use Rattle.host.specs.Worlds.{Reply, Said, said, known, Pipe, Process, gone, live, Known, process, with_process, waiting_now}
use Rattle.host.specs.Acts.{some_wait, pipe_after, sent_to}
use Rattle.host.specs.Talk.{Event, took, Areas, lay, Later, Wire, wire, Got, got, lost, ends, sent_by, send, Sight, Talks}
use Rattle.host.proofs.Streams.{answer_of, end_of, ends_answer, ends_end}

-- such a process after it took these bytes
abbrev pub known_after : Pipe → (List Said → Reply) → List ℕ → Pipe
known_after q k b =
    record q {
      waiting = q.waiting ++ k [] b (some_wait q.waiting);
      allowance = q.allowance - length b;
      replies = known (λ sends. k (said b (some_wait q.waiting) ∷ sends));
    }

module _ (q : Pipe) (k : List Said → Reply) (e : q.replies ≡ known k) where
  pub after_known : (b : List ℕ) (later : Reply) → pipe_after q b later ≡ known_after q k b
  after_known b later = ap (λ r. pipe_after (record q { replies = r }) b later) e

  -- a packet that it takes is sent, whatever is to come
  pub send_known : (p : Pkt) → length (packet p) ≤ q.allowance → (later : Later) (es : List Event)
      → send p (wire (live q) later es) ≡ got tt (wire (live (known_after q k (packet p))) (λ n. later (suc n)) (took (packet p) ∷ es))
  send_known p h later es =
      let b = packet p in
      let yes = le-leb (length b) q.allowance h in
      let rest : Later = λ n. later (suc n) in
      ap (λ t. sent_by (cond t (Ok tt) (Err (snag_fault q.snag))) b (wire (live q) later es)) yes
      ∙ ap (λ t. got tt (wire (cond t (live (pipe_after q b (later 0))) (live q)) rest (took b ∷ es))) yes
      ∙ ap (λ x. got tt (wire (live x) rest (took b ∷ es))) (after_known b (later 0))

known_either : (t : Bool) (x y : Process) → Known x → Known y → Known (cond t x y)
known_either true x y h l = h
known_either false x y h l = l

-- it stays known when it is sent to, and when it is read from
pub sent_known : (q : Process) → Known q → (b : List ℕ) (later : Reply) → Known (sent_to q b later)
sent_known gone h b later = tt
sent_known (live q) h b later =
    known_either (leb (length b) q.allowance) (live (pipe_after q b later)) (live q) ((λ sends. h.0 (said b (some_wait q.waiting) ∷ sends)), ap (λ x. x.replies) (after_known q h.0 h.1 b later)) h

pub waiting_known : (q : Process) → Known q → (ws : List ℕ) → Known (waiting_now ws q)
waiting_known gone h ws = tt
waiting_known (live q) h ws = h

abbrev events_of : {A : Type 0} → Got A → List Event
events_of (got a v) = v.events
events_of (lost f v) = v.events

ends_events : {A : Type 0} (r : Result A LineFault) (v : Wire) → events_of (ends r v) ≡ v.events
ends_events (Ok a) v = refl
ends_events (Err f) v = refl

-- What f does from a process, if it is the same whatever is to come, is what a call did that went as f.
pub talk_did : {A : Type 0} {f : Wire → Got A} {w : Sight} {p : ℕ} {a : Areas} {r : Result A LineFault} {w' : Sight} {a' : Areas} (t : Talks f w p a r w' a') {q : Process} → process w.world p ≡ q
    → (r₁ : Result A LineFault) (q₁ : Process) (es : List Event) → ((later : Later) → (rest : Later) × (f (wire q later []) ≡ ends r₁ (wire q₁ rest es)))
    → (r ≡ r₁) × (w'.world ≡ with_process w.world p q₁) × (a' ≡ lay es a) × (t.events ≡ es)
talk_did {f = f} {w = w} {p = p} {a = a} {r = r} {w' = w'} t at r₁ q₁ es does =
    let x = t.goes (λ _ _ _. []) in
    let y = does x.0 in
    let v = wire (process w'.world p) (λ _ _ _. []) (t.events ++ []) in
    let v₁ = wire q₁ y.0 es in
    let same : ends r v ≡ ends r₁ v₁ = sym (x.1 []) ∙ ap (λ z. f (wire z x.0 [])) at ∙ y.1 in
    let passed : t.events ≡ es = sym (append-nil t.events) ∙ sym (ends_events r v) ∙ ap events_of same ∙ ends_events r₁ v₁ in (
      sym (ends_answer r v) ∙ ap answer_of same ∙ ends_answer r₁ v₁,
      t.others ∙ ap (with_process w.world p) (sym (ends_end r v) ∙ ap end_of same ∙ ends_end r₁ v₁),
      t.laid ∙ ap (λ l. lay l a) passed,
      passed,
    )
