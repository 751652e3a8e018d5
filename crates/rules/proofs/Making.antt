-- A call that talks with a recorded process is a step, once its talk is known.
use Rattle.std.proofs.Common.{◌≡◌, ℕ, Bool, true, false, cond, not, ◌&&◌, List, [], ◌∷◌, Some, Ok, Err, Option, Result, sym, refl, ap, ◌∙◌, subst}
use Rattle.std.proofs.lemmas.List.{append-nil}
use Rattle.host.specs.declared.fault.LineFault.{LineFault}
use Rattle.host.specs.declared.host.How.{How}
use Rattle.host.specs.Worlds.{Process, gone, live, World, process}
use Rattle.host.specs.Acts.{Act, ending, Grows, Ended}
use Rattle.host.specs.Talk.{Areas, lay, Later, Wire, wire, Got, ends, Sight, Talks}
use Rattle.host.proofs.Logging.{grows_then}
use Rattle.records.specs.declared.key.Key.{Key}
use Rattle.records.specs.declared.operation.Operation.{Operation}
use Rattle.records.specs.declared.record.Record.{Record}
use Rattle.records.specs.Places.{Place}
use Rattle.records.specs.Records.{lookup, is_reading, reading_by, without, changed}
use Rattle.rules.specs.Calls.{Call, is_within, needs_areas, Turn}
use Rattle.rules.specs.Answers.{Answer, fault}
use Rattle.rules.specs.Steps.{Fate, stays, leaves, Verdict, verdict, State, state, Outcome, refuse, ended_as, ended, its_seat, seated, settle_by, settle, conclude, line_to, fetch_at, list_at, read_at, fetch_from, list_from, read_from, act, step}
use Rattle.rules.specs.Promises.{Done, passes, IsStep}
use Rattle.rules.proofs.Onward.{onward}
use Rattle.rules.proofs.Talking.{talk_later, talk_world}

-- The checks before a call

and_false : (b : Bool) → (b && false) ≡ false
and_false true = refl
and_false false = refl

pub step_acts : (capacity : ℕ) (t : Turn) (s : State) → t.has_room ≡ true → is_within t.call ≡ true → step capacity t s ≡ act capacity t s t.call
step_acts capacity t s room within =
    ap (λ z. cond (needs_areas t.call && not z) (refuse 1 s) (cond (is_within t.call) (act capacity t s t.call) (refuse 2 s))) room
    ∙ ap (λ z. cond z (refuse 1 s) (cond (is_within t.call) (act capacity t s t.call) (refuse 2 s))) (and_false (needs_areas t.call))
    ∙ ap (λ z. cond z (act capacity t s t.call) (refuse 2 s)) within

pub fetch_acts : (t : Turn) (s : State) (k : Key) (op : Operation) (path : List ℕ) (r : Record) → lookup s.table k ≡ Some r → is_reading r ≡ false → fetch_from t s op path (lookup s.table k) ≡ fetch_at t s op path r
fetch_acts t s k op path r found idle = ap (fetch_from t s op path) found ∙ ap (λ z. cond z (refuse 4 s) (fetch_at t s op path r)) idle

pub list_acts : (t : Turn) (s : State) (k : Key) (rows room : ℕ) (r : Record) → lookup s.table k ≡ Some r → is_reading r ≡ false → list_from t s rows room (lookup s.table k) ≡ list_at t s rows room r
list_acts t s k rows room r found idle = ap (list_from t s rows room) found ∙ ap (λ z. cond z (refuse 4 s) (list_at t s rows room r)) idle

pub read_acts : (t : Turn) (s : State) (p : ℕ) (r : Record) → reading_by s.table p ≡ Some r → read_from t s (reading_by s.table p) ≡ read_at t s r r.reading
read_acts t s p r found = ap (read_from t s) found

-- a process was ended, as a host promises it
ended_by : (w : World) (p : ℕ) (w' : World) (y : Process) → process w p ≡ y → Ended w p w' → ended_as w'.startable w p y ≡ w'
ended_by w p w' gone e d = sym (d.stays e)
ended_by w p w' (live q) e d = λ j. record { procs = sym (d.closes q e) j; startable = w'.startable }

pub ended_to : (w : World) (p : ℕ) (w' : World) → Ended w p w' → ended w'.startable w p ≡ w'
ended_to w p w' d = ended_by w p w' (process w p) refl d

-- A step by its outcome

abbrev pub is_step_by : {capacity : ℕ} {c : Call} {room : Bool} {table : List Place} {w : Sight} {a : Areas} {r : Answer} {table' : List Place} {w' : Sight} {a' : Areas} (t : Turn)
    → t.call ≡ c → t.has_room ≡ room → (o : Outcome) → step capacity t (state table w.world) ≡ o → o.answer ≡ r → o.after ≡ state table' w'.world → a' ≡ lay (passes o.deeds) a
    → (acts : List Act) → Done o.deeds acts → Grows w.log acts w'.log → IsStep capacity c room table w a r table' w' a'
is_step_by {capacity = capacity} {table = table} {w = w} {a = a} {r = r} {table' = table'} {w' = w'} t is room o e answers reaches laid acts done grows = record {
  turn = t;
  is_of = is;
  room_is = room;
  answers = ap (λ (x : Outcome). x.answer) e ∙ answers;
  reaches = ap (λ (x : Outcome). x.after) e ∙ reaches;
  laid = laid ∙ ap (λ (x : Outcome). lay (passes x.deeds) a) (sym e);
  acts = acts;
  done = subst (λ (x : Outcome). Done x.deeds acts) (sym e) done;
  grows = grows;
  goes_on = onward capacity table w.world t r table' w'.world (ap (λ (x : Outcome). x.answer) e ∙ answers) (ap (λ (x : Outcome). x.after) e ∙ reaches);
}

-- A talk with a record's process

module _ {A : Type 0} (f : Wire → Got A) (table : List Place) (r : Record) {w : Sight} {a : Areas} {x : Result A LineFault} {w₁ : Sight} {a₁ : Areas} (t : Talks f w r.process a x w₁ a₁)
    (rest : Later) (right : A → Wire → Verdict) (wrong : LineFault → Fate) where
  -- the replies to come before it
  pub its_later : Later
  its_later = (talk_later f t rest).0

  after_it : Wire
  after_it = wire (process w₁.world r.process) rest t.events

  abbrev pub Verdict_of : Result A LineFault → Verdict
  Verdict_of (Ok y) = right y (wire (process w₁.world r.process) rest t.events)
  Verdict_of (Err e) = verdict (fault e) (wrong e)

  ends_so : (u : Turn) (y : Result A LineFault)
      → conclude u w.world (its_seat (state table w.world) r) (ends y (wire (process w₁.world r.process) rest t.events)) right wrong
      ≡ settle u w.world (its_seat (state table w.world) r) (wire (process w₁.world r.process) rest t.events) (Verdict_of y)
  ends_so u (Ok y) = refl
  ends_so u (Err e) = refl

  module _ (u : Turn) (later : u.later ≡ (talk_later f t rest).0) where
    pub concludes : conclude u w.world (its_seat (state table w.world) r) (f (line_to u w.world r)) right wrong
        ≡ settle u w.world (its_seat (state table w.world) r) (wire (process w₁.world r.process) rest t.events) (Verdict_of x)
    concludes =
        ap (λ l. conclude u w.world (its_seat (state table w.world) r) (f (wire (process w.world r.process) l [])) right wrong) later
        ∙ ap (λ g. conclude u w.world (its_seat (state table w.world) r) g right wrong) (talk_later f t rest).1
        ∙ ends_so u x

    module _ (capacity : ℕ) (c : Call) (room : Bool) (is : u.call ≡ c) (room_is : u.has_room ≡ room)
        (goes : step capacity u (state table w.world) ≡ conclude u w.world (its_seat (state table w.world) r) (f (line_to u w.world r)) right wrong) (answer : Answer) where
      pub settled : (fate : Fate) → Verdict_of x ≡ verdict answer fate
          → step capacity u (state table w.world) ≡ settle_by u w.world (its_seat (state table w.world) r) (wire (process w₁.world r.process) rest t.events) answer fate
      settled fate v =
          goes ∙ concludes ∙ ap (λ d. settle u w.world (its_seat (state table w.world) r) (wire (process w₁.world r.process) rest t.events) d) v

      -- the record stays
      abbrev pub stays_step : (m : ℕ) (o : Option Operation) → Verdict_of x ≡ verdict answer (stays m o) → IsStep capacity c room table w a answer (changed (λ _. seated r m o) table r.key) w₁ a₁
      stays_step m o v =
          is_step_by u is room_is _ (settled (stays m o) v) refl (ap (state (changed (λ _. seated r m o) table r.key)) (talk_world f t))
          (t.laid ∙ ap (λ es. lay es a) (sym (append-nil t.events)))
          t.acts (t.acts, ([], sym (append-nil t.acts), t.acted, refl)) t.grows

      -- the record leaves, and its process is ended
      abbrev pub leaves_step : (how : How) → Verdict_of x ≡ verdict answer (leaves how) → {w₂ : Sight} → Ended w₁.world r.process w₂.world → Grows w₁.log (ending r.process how ∷ []) w₂.log
          → u.startable_last ≡ w₂.world.startable → IsStep capacity c room table w a answer (without table r.key) w₂ a₁
      leaves_step how v {w₂ = w₂} d grown last =
          is_step_by u is room_is _ (settled (leaves how) v) refl
          (ap (λ y. state (without table r.key) (ended u.startable_last y r.process)) (talk_world f t)
          ∙ ap (λ s. state (without table r.key) (ended s w₁.world r.process)) last
          ∙ ap (state (without table r.key)) (ended_to w₁.world r.process w₂.world d))
          (t.laid ∙ ap (λ es. lay es a) (sym (append-nil t.events)))
          (ending r.process how ∷ t.acts) (t.acts, refl, (t.acts, ([], sym (append-nil t.acts), t.acted, refl))) (grows_then w.log w₁.log w₂.log t.acts (ending r.process how ∷ []) t.grows grown)
