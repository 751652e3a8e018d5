-- An apply for an unknown key is a step, once the start, the handshake and the exchange are known.
use Rattle.std.proofs.Common.{◌≡◌, ℕ, Bool, true, false, cond, ◌&&◌, List, [], ◌∷◌, ◌++◌, length, Some, None, Ok, Err, Option, Result, sym, refl, ap, ◌∙◌, subst}
use Rattle.std.specs.Prelude.{unwrap_or, slice_index_or}
use Rattle.std.proofs.lemmas.List.{append-nil, get_or_push, set-set}
use Rattle.packetline.specs.Packets.{Pkt}
use Rattle.host.specs.declared.fault.LineFault.{LineFault}
use Rattle.host.specs.declared.host.How.{How}
use Rattle.host.specs.declared.host.How.TheVariants.{Close}
use Rattle.host.specs.Worlds.{Pipe, gone, live, process, with_process}
use Rattle.host.specs.Acts.{can_start, Act, starting, ending, Grows, Ended}
use Rattle.host.specs.Talk.{Event, Areas, lay, Later, Wire, wire, Got, ends, Acted, Sight, Talks}
use Rattle.host.proofs.Logging.{grows_then}
use Rattle.host.proofs.Talking.{lay_append, acted_append}
use Rattle.process.specs.declared.status.Status.{Status}
use Rattle.handshake.specs.Handshakes.{Shaken}
use Rattle.records.specs.declared.key.Key.{Key}
use Rattle.records.specs.declared.operation.Operation.{Operation}
use Rattle.records.specs.declared.record.Record.{Record}
use Rattle.records.specs.Keys.{key_bytes}
use Rattle.records.specs.Places.{Place}
use Rattle.records.specs.Records.{lookup, put_first_free}
use Rattle.rules.specs.Names.{can_do, can_delay}
use Rattle.rules.specs.Calls.{Asked, may_delay, apply, asks_within, Turn}
use Rattle.rules.specs.Answers.{Answer, passed, fault, refused}
use Rattle.rules.specs.Steps.{asked_lines, request_for, exchange, Fate, stays, leaves, Verdict, verdict, after_fault, after_exchange, delayed_if, state, starts, Outcome, outcome, refuse, ended, Seat, new_seat, seated, settle_by, settle, conclude, newcomer_record, started, after_handshake, greeting, first_of_all, has_free, apply_to, step}
use Rattle.rules.specs.Promises.{IsStep}
use Rattle.rules.proofs.Talking.{talk_later}
use Rattle.rules.proofs.Making.{step_acts, is_step_by, ended_to}

-- what passed with a process between two sights of its host
pub record Through (w : Sight) (p : ℕ) (a : Areas) (es : List Event) (w' : Sight) (a' : Areas) : Type 0 where
  pub others : with_process w.world p (process w'.world p) ≡ w'.world
  pub laid : a' ≡ lay es a
  pub acts : List Act
  pub acted : Acted p es acts
  pub grows : Grows w.log acts w'.log

pub through_one : {A : Type 0} {f : Wire → Got A} {w : Sight} {p : ℕ} {a : Areas} {x : Result A LineFault} {w' : Sight} {a' : Areas} (t : Talks f w p a x w' a') → Through w p a t.events w' a'
through_one t = record { others = sym t.others; laid = t.laid; acts = t.acts; acted = t.acted; grows = t.grows }

pub through_two : {A B : Type 0} {f : Wire → Got A} {g : Wire → Got B} {w : Sight} {p : ℕ} {a : Areas} {x : Result A LineFault} {w₁ : Sight} {a₁ : Areas} {y : Result B LineFault} {w₂ : Sight} {a₂ : Areas}
    (t : Talks f w p a x w₁ a₁) (u : Talks g w₁ p a₁ y w₂ a₂) → Through w p a (u.events ++ t.events) w₂ a₂
through_two {w = w} {p = p} {a = a} {w₁ = w₁} {w₂ = w₂} t u = record {
  others = (λ j. record { procs = sym (set-set w.world.procs p (process w₁.world p) (process w₂.world p)) j; startable = w.world.startable })
      ∙ ap (λ y. with_process y p (process w₂.world p)) (sym t.others) ∙ sym u.others;
  laid = u.laid ∙ ap (lay u.events) t.laid ∙ sym (lay_append u.events t.events a);
  acts = u.acts ++ t.acts;
  acted = acted_append p u.events t.events u.acts t.acts u.acted t.acted;
  grows = grows_then w.log w₁.log w₂.log t.acts u.acts t.grows u.grows;
}

-- A process was started for a key that no record has.
module _ (capacity : ℕ) (table : List Place) (k : Key) (op : Operation) (asked : Asked) (w w₁ : Sight) (q : Pipe) (unknown : lookup table k ≡ None) (within : asks_within asked ≡ true)
    (free : has_free table ≡ true) (can : can_start capacity w.world (key_bytes k) ≡ true) (procs : w₁.world.procs ≡ w.world.procs ++ live q ∷ [])
    (began : Grows w.log (starting (key_bytes k) (Ok (length w.world.procs)) ∷ []) w₁.log) (l : Later) (last : List ℕ → Bool) where
  -- the turn
  pub its_turn : Turn
  its_turn = record { call = apply k op asked; has_room = true; newcomer = q; startable_then = w₁.world.startable; startable_last = last; later = l }

  abbrev U : Turn
  U = record { call = apply k op asked; has_room = true; newcomer = q; startable_then = w₁.world.startable; startable_last = last; later = l }

  abbrev P : ℕ
  P = length w.world.procs

  begins : step capacity U (state table w.world) ≡ first_of_all (starts (key_bytes k) (Some (length w.world.procs))) (after_handshake U (state table w.world) k op asked (greeting (wire (live q) l [])))
  begins =
      step_acts capacity U (state table w.world) refl within
      ∙ ap (apply_to capacity U (state table w.world) k op asked) unknown
      ∙ ap (λ z. cond z
      (cond (can_start capacity w.world (key_bytes k))
      (first_of_all (starts (key_bytes k) (Some (length w.world.procs))) (after_handshake U (state table w.world) k op asked (greeting (wire (live q) l []))))
      (outcome (refused 10) (state table w.world) (starts (key_bytes k) None ∷ [])))
      (refuse 6 (state table w.world))) free
      ∙ ap (λ z. cond z
      (first_of_all (starts (key_bytes k) (Some (length w.world.procs))) (after_handshake U (state table w.world) k op asked (greeting (wire (live q) l []))))
      (outcome (refused 10) (state table w.world) (starts (key_bytes k) None ∷ []))) can

  its_world : started U w.world ≡ w₁.world
  its_world = λ j. record { procs = sym procs j; startable = w₁.world.startable }

  its_process : process w₁.world (length w.world.procs) ≡ live q
  its_process = ap (λ xs. slice_index_or xs (length w.world.procs) gone) procs ∙ get_or_push w.world.procs (live q) gone (length w.world.procs) refl

  -- what passed, and the step that it makes
  module _ (a : Areas) (es : List Event) (wₑ : Sight) (aₑ : Areas) (passed_so : Through w₁ (length w.world.procs) a es wₑ aₑ) (rest : Later) (r : Record) (of : r.process ≡ length w.world.procs) (answer : Answer) where
    at_last : with_process (started U w.world) r.process (process wₑ.world (length w.world.procs)) ≡ wₑ.world
    at_last =
        ap (λ y. with_process y r.process (process wₑ.world (length w.world.procs))) its_world ∙ ap (λ n. with_process w₁.world n (process wₑ.world (length w.world.procs))) of ∙ passed_so.others

    acted_so : Acted r.process es passed_so.acts
    acted_so = subst (λ n. Acted n es passed_so.acts) (sym of) passed_so.acted

    pub new_stays : (m : ℕ) (o : Option Operation)
        → step capacity U (state table w.world)
        ≡ first_of_all (starts (key_bytes k) (Some (length w.world.procs))) (settle_by U (started U w.world) (new_seat table q r) (wire (process wₑ.world (length w.world.procs)) rest es) answer (stays m o))
        → IsStep capacity (apply k op asked) true table w a answer (unwrap_or (put_first_free table (seated r m o)) table) wₑ aₑ
    new_stays m o e =
        is_step_by U refl refl _ e refl (ap (state (unwrap_or (put_first_free table (seated r m o)) table)) at_last)
        (passed_so.laid ∙ ap (λ xs. lay xs a) (sym (append-nil es)))
        (passed_so.acts ++ starting (key_bytes k) (Ok (length w.world.procs)) ∷ []) (passed_so.acts, (starting (key_bytes k) (Ok (length w.world.procs)) ∷ [], refl, acted_so, ([], refl, refl)))
        (grows_then w.log w₁.log wₑ.log (starting (key_bytes k) (Ok (length w.world.procs)) ∷ []) passed_so.acts began passed_so.grows)

    pub new_leaves : (how : How) → {w₂ : Sight} → Ended wₑ.world r.process w₂.world → Grows wₑ.log (ending r.process how ∷ []) w₂.log → last ≡ w₂.world.startable
        → step capacity U (state table w.world)
        ≡ first_of_all (starts (key_bytes k) (Some (length w.world.procs))) (settle_by U (started U w.world) (new_seat table q r) (wire (process wₑ.world (length w.world.procs)) rest es) answer (leaves how))
        → IsStep capacity (apply k op asked) true table w a answer table w₂ aₑ
    new_leaves how {w₂ = w₂} d grown then_free e =
        is_step_by U refl refl _ e refl
        (ap (λ y. state table (ended last y r.process)) at_last ∙ ap (λ s. state table (ended s wₑ.world r.process)) then_free ∙ ap (state table) (ended_to wₑ.world r.process w₂.world d))
        (passed_so.laid ∙ ap (λ xs. lay xs a) (sym (append-nil es)))
        (ending r.process how ∷ (passed_so.acts ++ starting (key_bytes k) (Ok (length w.world.procs)) ∷ []))
        (passed_so.acts ++ starting (key_bytes k) (Ok (length w.world.procs)) ∷ [], refl, (passed_so.acts, (starting (key_bytes k) (Ok (length w.world.procs)) ∷ [], refl, acted_so, ([], refl, refl))))
        (grows_then w.log wₑ.log w₂.log (passed_so.acts ++ starting (key_bytes k) (Ok (length w.world.procs)) ∷ []) (ending r.process how ∷ [])
        (grows_then w.log w₁.log wₑ.log (starting (key_bytes k) (Ok (length w.world.procs)) ∷ []) passed_so.acts began passed_so.grows) grown)

  -- Which step it is: the handshake went so, over names that spell what the table desires
  module _ {f : Wire → Got (Result Shaken ℕ)} (alike : (v : Wire) → f v ≡ greeting v) {a : Areas} {x : Result (Result Shaken ℕ) LineFault} {w₂ : Sight} {a₂ : Areas} (t : Talks f w₁ (length w.world.procs) a x w₂ a₂)
      (l₂ : Later) (later : l ≡ (talk_later f t l₂).0) where
    greets_so : (y : Result (Result Shaken ℕ) LineFault) → x ≡ y
        → step capacity U (state table w.world)
        ≡ first_of_all (starts (key_bytes k) (Some (length w.world.procs))) (after_handshake U (state table w.world) k op asked (ends y (wire (process w₂.world (length w.world.procs)) l₂ t.events)))
    greets_so y is =
        begins
        ∙ ap (λ g. first_of_all (starts (key_bytes k) (Some (length w.world.procs))) (after_handshake U (state table w.world) k op asked g))
        (sym (alike (wire (live q) l [])) ∙ ap (λ z. f (wire z l [])) (sym its_process) ∙ ap (λ m. f (wire (process w₁.world (length w.world.procs)) m [])) later ∙ (talk_later f t l₂).1
        ∙ ap (λ z. ends z (wire (process w₂.world (length w.world.procs)) l₂ t.events)) is)

    -- a line fault in the handshake
    pub handshake_faults : (e : LineFault) → x ≡ Err e
        → step capacity U (state table w.world)
        ≡ first_of_all (starts (key_bytes k) (Some (length w.world.procs)))
        (settle_by U (started U w.world) (new_seat table q (newcomer_record k (length w.world.procs) 0 0)) (wire (process w₂.world (length w.world.procs)) l₂ t.events) (fault e) (leaves Close))
    handshake_faults e is = greets_so (Err e) is

    -- the process said what it must not
    pub handshake_refused : (n : ℕ) → x ≡ Ok (Err n)
        → step capacity U (state table w.world)
        ≡ first_of_all (starts (key_bytes k) (Some (length w.world.procs)))
        (settle_by U (started U w.world) (new_seat table q (newcomer_record k (length w.world.procs) 0 0)) (wire (process w₂.world (length w.world.procs)) l₂ t.events) (refused n) (leaves Close))
    handshake_refused n is = greets_so (Ok (Err n)) is

    module _ (s : Shaken) (is : x ≡ Ok (Ok s)) where
      Newcomer : Record
      Newcomer = newcomer_record k (length w.world.procs) s.version s.mask

      its_seat_is : Seat
      its_seat_is = new_seat table q (newcomer_record k (length w.world.procs) s.version s.mask)

      abbrev Lines : List Pkt
      Lines = request_for op asked.rela_path (asked_lines asked (may_delay asked.delay && can_delay (record { mask = s.mask })))

      abbrev Right : Status → Verdict
      Right st = after_exchange (length w.world.procs) op s.mask (delayed_if (may_delay asked.delay && can_delay (record { mask = s.mask })) s.mask) st

      Whether : Bool → Outcome
      Whether z =
          first_of_all (starts (key_bytes k) (Some (length w.world.procs)))
          (cond z
          (conclude U (started U w.world) (new_seat table q (newcomer_record k (length w.world.procs) s.version s.mask))
          (exchange Lines asked.content (wire (process w₂.world (length w.world.procs)) l₂ t.events)) (λ st _. Right st) (after_fault s.mask))
          (settle U (started U w.world) (new_seat table q (newcomer_record k (length w.world.procs) s.version s.mask)) (wire (process w₂.world (length w.world.procs)) l₂ t.events) (verdict passed (stays s.mask None))))

      -- it cannot do the operation
      pub apply_passes : can_do op (record { mask = s.mask }) ≡ false
          → step capacity U (state table w.world)
          ≡ first_of_all (starts (key_bytes k) (Some (length w.world.procs)))
          (settle_by U (started U w.world) (new_seat table q (newcomer_record k (length w.world.procs) s.version s.mask)) (wire (process w₂.world (length w.world.procs)) l₂ t.events) passed (stays s.mask None))
      unfolding Whether
      apply_passes cannot = greets_so (Ok (Ok s)) is ∙ ap Whether cannot

      -- it can, and an exchange followed
      module _ {y : Result Status LineFault} {w₃ : Sight} {a₃ : Areas} (u : Talks (exchange Lines asked.content) w₂ (length w.world.procs) a₂ y w₃ a₃) (rest : Later) (meets : l₂ ≡ (u.goes rest).0) where
        abbrev pub Verdict_then : Result Status LineFault → Verdict
        Verdict_then (Ok st) = Right st
        Verdict_then (Err e) = verdict (fault e) (after_fault s.mask e)

        ends_then : (z : Result Status LineFault)
            → conclude U (started U w.world) (new_seat table q (newcomer_record k (length w.world.procs) s.version s.mask))
            (ends z (wire (process w₃.world (length w.world.procs)) rest (u.events ++ t.events))) (λ st _. Right st) (after_fault s.mask)
            ≡ settle U (started U w.world) (new_seat table q (newcomer_record k (length w.world.procs) s.version s.mask)) (wire (process w₃.world (length w.world.procs)) rest (u.events ++ t.events)) (Verdict_then z)
        ends_then (Ok st) = refl
        ends_then (Err e) = refl

        pub apply_goes : can_do op (record { mask = s.mask }) ≡ true → (answer : Answer) (fate : Fate) → Verdict_then y ≡ verdict answer fate
            → step capacity U (state table w.world)
            ≡ first_of_all (starts (key_bytes k) (Some (length w.world.procs)))
            (settle_by U (started U w.world) (new_seat table q (newcomer_record k (length w.world.procs) s.version s.mask)) (wire (process w₃.world (length w.world.procs)) rest (u.events ++ t.events)) answer fate)
        unfolding Whether
        apply_goes can_it answer fate v =
            greets_so (Ok (Ok s)) is ∙ ap Whether can_it
            ∙ ap (λ g. first_of_all (starts (key_bytes k) (Some (length w.world.procs)))
            (conclude U (started U w.world) (new_seat table q (newcomer_record k (length w.world.procs) s.version s.mask)) g (λ st _. Right st) (after_fault s.mask)))
            (ap (λ m. exchange Lines asked.content (wire (process w₂.world (length w.world.procs)) m t.events)) meets ∙ (u.goes rest).1 t.events)
            ∙ ap (first_of_all (starts (key_bytes k) (Some (length w.world.procs)))) (ends_then y)
            ∙ ap (λ d. first_of_all (starts (key_bytes k) (Some (length w.world.procs)))
            (settle U (started U w.world) (new_seat table q (newcomer_record k (length w.world.procs) s.version s.mask)) (wire (process w₃.world (length w.world.procs)) rest (u.events ++ t.events)) d)) v
