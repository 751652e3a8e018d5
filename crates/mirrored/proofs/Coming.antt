-- What a client's talk comes to over a process of a mirror.
use Rattle.std.proofs.Common.{◌≡◌, ℕ, suc, ◌-◌, ◌≤◌, true, List, [], ◌∷◌, ◌++◌, length, Some, None, Ok, codes, Option, Result, sym, refl, ap, ◌∙◌, arith}
use Rattle.std.proofs.lemmas.List.{append-nil}
use Rattle.slices.specs.declared.name.Name.{Name}
use Rattle.packetline.specs.Packets.{Pkt, flush, line, sendable, packet, packets, whole, front}
use Rattle.packetline.specs.Text.{text_of}
use Rattle.packetline.proofs.Exact.{sent_back}
use Rattle.host.specs.Worlds.{Pipe, live, waiting_of}
use Rattle.host.specs.Talk.{Event, took, gave, Later, Wire, wire, Got, got, then, send, send_all, hear, read, read_content, texted, read_text}
use Rattle.host.proofs.Knowing.{send_known}
use Rattle.process.specs.Gather.{Turn, goes, stops, turned, gather}
use Rattle.process.proofs.Gathers.{Leaves, gather_on}
use Rattle.handshake.specs.Judged.{read_judged}
use Rattle.mirror.specs.Stages.{Stage, Move, taken, hears}
use Rattle.mirror.specs.Plans.{only, plan, pipe_at}

-- a talk gives an answer, and leaves the process so after these events
pub record Comes {A : Type 0} (g : Got A) (a : A) (q : Pipe) (es : List Event) : Type 0 where
  pub later : Later
  pub is : g ≡ got a (wire (live q) later es)

pub comes_done : {A : Type 0} (a : A) (q : Pipe) (later : Later) (es : List Event) → Comes (got a (wire (live q) later es)) a q es
comes_done a q later es = record { later = later; is = refl }

pub comes_then :
    {A B : Type 0} {g : Got A} (f : A → Wire → Got B) {a : A} {q : Pipe} {es : List Event} {b : B} {q' : Pipe} {es' : List Event}
    → Comes g a q es → ((later : Later) → Comes (f a (wire (live q) later es)) b q' es') → Comes (then g f) b q' es'
comes_then f c k = let d = k c.later in record { later = d.later; is = ap (λ y. then y f) c.is ∙ d.is }

pub comes_as : {A : Type 0} {g g' : Got A} {a : A} {q : Pipe} {es : List Event} → g ≡ g' → Comes g' a q es → Comes g a q es
comes_as e c = record { later = c.later; is = e ∙ c.is }

-- the same packets are sent
pub comes_sent : {ps qs : List Pkt} (e : ps ≡ qs) (v : Wire) {a : Unit {0}} {q : Pipe} {es : List Event} → Comes (send_all qs v) a q es → Comes (send_all ps v) a q es
comes_sent e v c = comes_as (ap (λ xs. send_all xs v) e) c

-- a talk that comes to the same whatever is to come, with what passes in it
pub record Settled {A : Type 0} (f : Wire → Got A) (q : Pipe) (a : A) (q' : Pipe) : Type 0 where
  pub events : List Event
  pub comes : (later : Later) → Comes (f (wire (live q) later [])) a q' events

pub settled : {A : Type 0} {f : Wire → Got A} {q : Pipe} {a : A} {q' : Pipe} {es : List Event} → ((later : Later) → Comes (f (wire (live q) later [])) a q' es) → Settled f q a q'
settled {es = es} h = record { events = es; comes = h }

-- Reading on

module _ {S X A : Type 0} (reader : Wire → Got X) (step : S → X → Turn S A) (leaves : (v : Wire) → Leaves (length (waiting_of v.end)) (reader v)) where
  pub comes_more :
      {s s' : S} {ns : List Event} {v : Wire} {x : X} {q : Pipe} {es : List Event} {a : A} {q' : Pipe} {es' : List Event}
      → Comes (reader v) x q es → step s x ≡ goes s' ns → ((later : Later) → Comes (gather reader step s' (wire (live q) later (ns ++ es))) a q' es') → Comes (gather reader step s v) a q' es'
  comes_more {s} {v = v} {q = q} {es = es} c e k =
      comes_as (gather_on reader step leaves s v) (comes_then _ c (λ later. comes_as (ap (λ t. turned (gather reader step) t (wire (live q) later es)) e) (k later)))

  pub comes_stop : {s : S} {v : Wire} {x : X} {q : Pipe} {es : List Event} {a : A} → Comes (reader v) x q es → step s x ≡ stops a → Comes (gather reader step s v) a q es
  comes_stop {s} {v} {q = q} {es = es} {a = a} c e =
      comes_as (gather_on reader step leaves s v) (comes_then _ c (λ later. comes_as (ap (λ t. turned (gather reader step) t (wire (live q) later es)) e) (comes_done a q later es)))

-- A process of a mirror

abbrev pub prefix : List ℕ
prefix = codes "git-filter"

module _ (names : List Name) where
  abbrev pub at : Stage → List ℕ → ℕ → Pipe
  at s ws n = pipe_at prefix names s ws n

  -- a packet is sent where nothing waits
  pub says :
      (s : Stage) (n : ℕ) (p : Pkt) (size : ℕ) (m : Move) (later : Later) (es : List Event) → sendable p ≡ true → length (packet p) ≡ size → size ≤ n → hears prefix names s p ≡ m
      → Comes (send p (wire (live (at s [] n)) later es)) tt (at m.to (packets m.says) (n - size)) (took (packet p) ∷ es)
  says s n p size m later es ok long fits e =
      let b = packet p in
      let room : length b ≤ n = omega arith in
      let one : front b ≡ whole p b [] = ap front (sym (append-nil b)) ∙ sent_back p ok [] in
      record {
        later = λ k. later (suc k);
        is =
            send_known (at s [] n) (plan prefix names s) refl p room later es
            ∙ ap (λ f. said_by n b later es (taken (only f) (hears prefix names s))) one
            ∙ ap (said_by n b later es) e
            ∙ ap (λ k. got tt (wire (live (at m.to (packets m.says) (n - k))) (λ j. later (suc j)) (took b ∷ es))) long;
      }
    where
      said_by : ℕ → List ℕ → Later → List Event → Move → Got (Unit {0})
      said_by n b later es m = got tt (wire (live (at m.to (packets m.says) (n - length b))) (λ k. later (suc k)) (took b ∷ es))

  -- the packet that waits first is read
  pub reads :
      (s : Stage) (p : Pkt) (ps : List Pkt) (n : ℕ) (later : Later) (es : List Event) → sendable p ≡ true
      → Comes (read (wire (live (at s (packets (p ∷ ps)) n)) later es)) p (at s (packets ps) n) (gave (packet p) ∷ es)
  reads s p ps n later es ok = record { later = later; is = ap (λ f. hear f (wire (live (at s (packets (p ∷ ps)) n)) later es)) (sent_back p ok (packets ps)) }

  pub reads_line :
      (s : Stage) (l : List ℕ) (ps : List Pkt) (n : ℕ) (later : Later) (es : List Event) → sendable (line l) ≡ true
      → Comes (read_content (wire (live (at s (packets (line l ∷ ps)) n)) later es)) (Some l) (at s (packets ps) n) (gave (packet (line l)) ∷ es)
  reads_line s l ps n later es ok = comes_then _ (reads s (line l) ps n later es ok) (λ la. comes_done (Some l) _ la _)

  pub reads_flush :
      (s : Stage) (ps : List Pkt) (n : ℕ) (later : Later) (es : List Event)
      → Comes (read_content (wire (live (at s (packets (flush ∷ ps)) n)) later es)) None (at s (packets ps) n) (gave (packet flush) ∷ es)
  reads_flush s ps n later es = comes_then _ (reads s flush ps n later es refl) (λ la. comes_done None _ la _)

  pub reads_text :
      (s : Stage) (l t : List ℕ) (ps : List Pkt) (n : ℕ) (later : Later) (es : List Event) → sendable (line l) ≡ true → text_of l ≡ Ok t
      → Comes (read_text (wire (live (at s (packets (line l ∷ ps)) n)) later es)) (Some t) (at s (packets ps) n) (gave (packet (line l)) ∷ es)
  reads_text s l t ps n later es ok e =
      comes_then _ (reads_line s l ps n later es ok)
      (λ la. comes_as (ap (λ r. texted r (wire (live (at s (packets ps) n)) la (gave (packet (line l)) ∷ es))) e) (comes_done (Some t) _ la _))

  pub reads_end :
      (s : Stage) (ps : List Pkt) (n : ℕ) (later : Later) (es : List Event)
      → Comes (read_text (wire (live (at s (packets (flush ∷ ps)) n)) later es)) None (at s (packets ps) n) (gave (packet flush) ∷ es)
  reads_end s ps n later es = comes_then _ (reads_flush s ps n later es) (λ la. comes_done None _ la _)

  -- a line that is judged, or the flush in its place
  pub judges_line :
      {X : Type 0} (judge : Option (List ℕ) → Result X ℕ) (r : Result X ℕ) (s : Stage) (l t : List ℕ) (ps : List Pkt) (n : ℕ) (later : Later) (es : List Event)
      → sendable (line l) ≡ true → text_of l ≡ Ok t → judge (Some t) ≡ r
      → Comes (read_judged judge (wire (live (at s (packets (line l ∷ ps)) n)) later es)) r (at s (packets ps) n) (gave (packet (line l)) ∷ es)
  judges_line judge r s l t ps n later es ok e j =
      comes_then _ (reads_text s l t ps n later es ok e)
      (λ la. comes_as (ap (λ x. got x (wire (live (at s (packets ps) n)) la (gave (packet (line l)) ∷ es))) j) (comes_done r _ la _))

  pub judges_end :
      {X : Type 0} (judge : Option (List ℕ) → Result X ℕ) (r : Result X ℕ) (s : Stage) (ps : List Pkt) (n : ℕ) (later : Later) (es : List Event) → judge None ≡ r
      → Comes (read_judged judge (wire (live (at s (packets (flush ∷ ps)) n)) later es)) r (at s (packets ps) n) (gave (packet flush) ∷ es)
  judges_end judge r s ps n later es j =
      comes_then _ (reads_end s ps n later es)
      (λ la. comes_as (ap (λ x. got x (wire (live (at s (packets ps) n)) la (gave (packet flush) ∷ es))) j) (comes_done r _ la _))
