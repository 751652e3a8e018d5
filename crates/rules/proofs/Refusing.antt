-- Refused calls are steps that change nothing; giving up is a step; when a place is free.
use Rattle.std.proofs.Common.{◌≡◌, ℕ, ◌<◌, ◌≤◌, true, false, cond, not, ◌&&◌, List, [], ◌∷◌, map, length, Some, None, Ok, Err, Option, sym, refl, ap, ◌∙◌, arith}
use Rattle.std.specs.Prelude.{unwrap_or, ok_or, is_some, if◌then◌else◌}
use Rattle.std.specs.List.{list_any}
use Rattle.host.specs.declared.fault.NotStarted.{NotStarted}
use Rattle.host.specs.declared.host.How.TheVariants.{Kill}
use Rattle.host.specs.Acts.{can_start, starting, ending, Grows, Ended}
use Rattle.host.specs.Talk.{Areas, Sight}
use Rattle.host.proofs.Logging.{grows_none}
use Rattle.records.specs.declared.key.Key.{Key}
use Rattle.records.specs.declared.operation.Operation.{Operation}
use Rattle.records.specs.declared.record.Record.{Record}
use Rattle.records.specs.Keys.{key_bytes}
use Rattle.records.specs.Places.{Place}
use Rattle.records.specs.Records.{held, lookup, is_reading, reading_by, without, changed, put_first_free, inserted}
use Rattle.rules.specs.Calls.{Asked, is_within, needs_areas, Turn}
use Rattle.rules.specs.Answers.{done, refused}
use Rattle.rules.specs.Steps.{State, state, starts, Outcome, outcome, refuse, after_handshake, greeting, first_of_all, has_free, unless_reading, apply_to, fetch_from, list_from, read_from, give_up_at, ended, closed, closings, close, act, step}
use Rattle.host.specs.Worlds.{live}
use Rattle.host.specs.Talk.{wire}
use Rattle.rules.specs.Promises.{IsStep}
use Rattle.rules.proofs.Totals.{Placed, placed}
use Rattle.rules.proofs.Making.{is_step_by, ended_to}

-- nothing is changed and nothing done
abbrev pub refuses : {capacity : ℕ} {table : List Place} {w : Sight} (a : Areas) (t : Turn) (n : ℕ) → step capacity t (state table w.world) ≡ refuse n (state table w.world)
    → IsStep capacity t.call t.has_room table w a (refused n) table w a
refuses {w = w} a t n e = is_step_by t refl refl _ e refl refl refl [] refl (grows_none w.log)

module _ (capacity : ℕ) (t : Turn) (s : State) where
  pub no_room : needs_areas t.call ≡ true → t.has_room ≡ false → step capacity t s ≡ refuse 1 s
  no_room needs short =
      ap (λ z. cond (z && not t.has_room) (refuse 1 s) (cond (is_within t.call) (act capacity t s t.call) (refuse 2 s))) needs
      ∙ ap (λ z. cond (not z) (refuse 1 s) (cond (is_within t.call) (act capacity t s t.call) (refuse 2 s))) short

  pub outside : (needs_areas t.call && not t.has_room) ≡ false → is_within t.call ≡ false → step capacity t s ≡ refuse 2 s
  outside room far = ap (λ z. cond z (refuse 1 s) (cond (is_within t.call) (act capacity t s t.call) (refuse 2 s))) room ∙ ap (λ z. cond z (act capacity t s t.call) (refuse 2 s)) far

  pub fetch_unknown : (k : Key) (op : Operation) (path : List ℕ) → lookup s.table k ≡ None → fetch_from t s op path (lookup s.table k) ≡ refuse 3 s
  fetch_unknown k op path e = ap (fetch_from t s op path) e

  pub list_unknown : (k : Key) (rows room : ℕ) → lookup s.table k ≡ None → list_from t s rows room (lookup s.table k) ≡ refuse 3 s
  list_unknown k rows room e = ap (list_from t s rows room) e

  pub is_being_read : (r : Record) (o : Outcome) → is_reading r ≡ true → unless_reading s r o ≡ refuse 4 s
  is_being_read r o e = ap (λ z. cond z (refuse 4 s) o) e

  pub some_being_read : list_any is_reading (held s.table) ≡ true → close t s ≡ refuse 4 s
  some_being_read e = ap (λ z. cond z (refuse 4 s) (outcome done (state (map (λ _. None) s.table) (closed t.startable_last (held s.table) s.world)) (closings (held s.table)))) e

  pub read_unknown : (p : ℕ) → reading_by s.table p ≡ None → read_from t s (reading_by s.table p) ≡ refuse 5 s
  read_unknown p e = ap (read_from t s) e

  pub give_up_unknown : (p : ℕ) → reading_by s.table p ≡ None → give_up_at t s (reading_by s.table p) ≡ refuse 5 s
  give_up_unknown p e = ap (give_up_at t s) e

  abbrev Meets : Key → Operation → Asked → Outcome
  Meets k op a = first_of_all (starts (key_bytes k) (Some (length s.world.procs))) (after_handshake t s k op a (greeting (wire (live t.newcomer) t.later [])))

  pub apply_full : (k : Key) (op : Operation) (a : Asked) → lookup s.table k ≡ None → has_free s.table ≡ false → apply_to capacity t s k op a (lookup s.table k) ≡ refuse 6 s
  apply_full k op a e full =
      ap (apply_to capacity t s k op a) e ∙ ap (λ z. cond z (cond (can_start capacity s.world (key_bytes k)) (Meets k op a) (outcome (refused 10) s (starts (key_bytes k) None ∷ []))) (refuse 6 s)) full

  pub apply_unstartable : (k : Key) (op : Operation) (a : Asked) → lookup s.table k ≡ None → has_free s.table ≡ true → can_start capacity s.world (key_bytes k) ≡ false
      → apply_to capacity t s k op a (lookup s.table k) ≡ outcome (refused 10) s (starts (key_bytes k) None ∷ [])
  apply_unstartable k op a e free cannot =
      ap (apply_to capacity t s k op a) e
      ∙ ap (λ z. cond z (cond (can_start capacity s.world (key_bytes k)) (Meets k op a) (outcome (refused 10) s (starts (key_bytes k) None ∷ []))) (refuse 6 s)) free
      ∙ ap (λ z. cond z (Meets k op a) (outcome (refused 10) s (starts (key_bytes k) None ∷ []))) cannot

-- a start that the host refused
pub unstarted : {capacity : ℕ} {table : List Place} {w w' : Sight} (a : Areas) (t : Turn) (command : List ℕ) (e : NotStarted)
    → step capacity t (state table w.world) ≡ outcome (refused 10) (state table w.world) (starts command None ∷ []) → w'.world ≡ w.world → Grows w.log (starting command (Err e) ∷ []) w'.log
    → IsStep capacity t.call t.has_room table w a (refused 10) table w' a
unstarted {table = table} {w = w} a t command e is same grown =
    is_step_by t refl refl _ is refl (ap (state table) (sym same)) refl (starting command (Err e) ∷ []) (e, ([], refl, refl)) grown

-- a result is given up
pub gives_up : {capacity : ℕ} {table : List Place} {w w' : Sight} (a : Areas) (t : Turn) (r : Record) → step capacity t (state table w.world) ≡ give_up_at t (state table w.world) (Some r)
    → Ended w.world r.process w'.world → Grows w.log (ending r.process Kill ∷ []) w'.log → t.startable_last ≡ w'.world.startable
    → IsStep capacity t.call t.has_room table w a done (without table r.key) w' a
gives_up {table = table} {w = w} {w' = w'} a t r is d grown last =
    is_step_by t refl refl _ is refl (ap (λ s. state (without table r.key) (ended s w.world r.process)) last ∙ ap (state (without table r.key)) (ended_to w.world r.process w'.world d)) refl
    (ending r.process Kill ∷ []) ([], refl, refl) grown

-- Free places

pub free_when : (ps : List Place) → has_free ps ≡ true → length (held ps) < length ps
free_when [] e = let z : ◌≡◌ {A = ℕ} 0 1 = cc in absurd (omega arith)
free_when (None ∷ ps) e = let x = held_few ps in omega arith
  where
    held_few : (qs : List Place) → length (held qs) ≤ length qs
    held_few [] = omega arith
    held_few (None ∷ qs) = let x = held_few qs in omega arith
    held_few (Some r ∷ qs) = let x = held_few qs in omega arith
free_when (Some r ∷ ps) e = let x = free_when ps e in omega arith

pub full_when : (ps : List Place) → has_free ps ≡ false → length (held ps) ≡ length ps
full_when [] e = refl
full_when (None ∷ ps) e = let z : ◌≡◌ {A = ℕ} 0 1 = cc in absurd (omega arith)
full_when (Some r ∷ ps) e = let x = full_when ps e in omega arith

-- where a record is put

pub put_known : (r s : Record) (ps : List Place) → lookup ps r.key ≡ Some s → inserted ps r ≡ Ok (changed (λ _. r) ps r.key)
put_known r s ps e = ap (λ o. if is_some o then Ok (changed (λ _. r) ps r.key) else ok_or (put_first_free ps r) 6) e

put_free : (r : Record) (ps : List Place) → has_free ps ≡ true → ok_or {E = ℕ} (put_first_free ps r) 6 ≡ Ok (unwrap_or (put_first_free ps r) ps)
put_free r ps e = go (put_first_free ps r) (placed r ps e)
  where
    go : (o : Option (List Place)) → Placed ps r o → ok_or {E = ℕ} o 6 ≡ Ok (unwrap_or o ps)
    go None h = absurd h
    go (Some qs) h = refl

pub put_new : (r : Record) (ps : List Place) → lookup ps r.key ≡ None → has_free ps ≡ true → inserted ps r ≡ Ok (unwrap_or (put_first_free ps r) ps)
put_new r ps e free = ap (λ o. if is_some o then Ok (changed (λ _. r) ps r.key) else ok_or (put_first_free ps r) 6) e ∙ put_free r ps free
