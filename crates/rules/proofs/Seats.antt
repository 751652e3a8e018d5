-- The records and their processes: one record leaves with its process, or one enters with a new one. What else holds of a record and its process's
-- story is left open here.
use Rattle.std.proofs.Common.{◌≡◌, ◌≢◌, ℕ, zero, suc, ◌+◌, ◌<◌, ◌≤◌, Bool, true, false, cond, List, [], ◌∷◌, ◌++◌, length, Some, Option, ◌⊎◌, inl, inr, sym, refl, ap, ◌∙◌, subst, arith}
use Rattle.std.specs.Prelude.{unwrap_or, slice_index_or, slice_set, ◌==◌}
use Rattle.std.specs.List.{count_by}
use Rattle.std.proofs.lemmas.List.{length-set, get_or-set_same, get_or-set_other, get_or_past, set-set, set_at, length_push}
use Rattle.std.proofs.lemmas.List.Sums.{sum_by-cons}
use Rattle.std.proofs.lemmas.Bool.{eqb-true, eq-eqb, ne_eqb}
use Rattle.host.specs.Worlds.{Pipe, Process, gone, live}
use Rattle.records.specs.declared.key.Key.{Key}
use Rattle.records.specs.declared.operation.Operation.{Operation}
use Rattle.records.specs.declared.record.Record.{Record}
use Rattle.records.specs.Keys.{same_key}
use Rattle.records.specs.Places.{Place}
use Rattle.records.specs.Records.{lookup, without, changed, put_first_free}
use Rattle.rules.specs.Stories.{one_if}
use Rattle.rules.specs.Lives.{is_open}
use Rattle.rules.specs.Steps.{State, Seat, its_seat, new_seat, seated, has_free}
use Rattle.rules.proofs.Totals.{total, In, Loses, Gains, of_key, of_process, total_in, of_key_same, same_key_refl, its_lookup, without_loses, changed_gains, put_gains}

-- how many processes are open
abbrev pub open_total : List Process → ℕ
open_total [] = 0
open_total (x ∷ ws) = one_if (is_open x) + open_total ws

abbrev pub at : List Process → ℕ → Process
at ws p = slice_index_or ws p gone

pub count_open : (ws : List Process) → count_by is_open ws ≡ open_total ws
count_open [] = refl
count_open (x ∷ ws) = sum_by-cons (λ y. cond (is_open y) 1 0) x ws ∙ ap (λ n. one_if (is_open x) + n) (count_open ws)

open_set : (ws : List Process) (i : ℕ) (x : Process) → i < length ws → open_total (slice_set ws i x) + one_if (is_open (at ws i)) ≡ open_total ws + one_if (is_open x)
open_set [] i x h = absurd (omega arith)
open_set (y ∷ ws) zero x h = omega arith
open_set (y ∷ ws) (suc i) x h = let ih = open_set ws i x (omega arith) in omega arith

open_push : (ws : List Process) (x : Process) → open_total (ws ++ x ∷ []) ≡ open_total ws + one_if (is_open x)
open_push [] x = omega arith
open_push (y ∷ ws) x = let ih = open_push ws x in omega arith

within : (ws : List Process) (p : ℕ) → one_if (is_open (at ws p)) ≡ 1 → p < length ws
within [] p e = absurd (omega arith)
within (x ∷ ws) zero e = omega arith
within (x ∷ ws) (suc p) e = let ih = within ws p e in omega arith

at_push : (ws : List Process) (p : ℕ) → at (ws ++ gone ∷ []) p ≡ at ws p
at_push [] zero = refl
at_push [] (suc p) = refl
at_push (x ∷ ws) zero = refl
at_push (x ∷ ws) (suc p) = at_push ws p

-- what is known of each process differs at process p alone
abbrev pub But : {X : Type 0} → ℕ → (ℕ → X) → (ℕ → X) → Type 0
But p b b' = (n : ℕ) → n ≢ p → b' n ≡ b n

-- two numbers are equal or not, as the test says
data Same (a b : ℕ) : Type 0 where
  equal : a ≡ b → (a == b) ≡ true → Same a b
  apart : a ≢ b → (a == b) ≡ false → Same a b

same : (a b : ℕ) → Same a b
same a b = go (a == b) refl
  where
    go : (v : Bool) → (a == b) ≡ v → Same a b
    go true e = equal (eqb-true a b e) e
    go false e = apart (λ q. let z : ◌≡◌ {A = ℕ} 0 1 = let t : (a == b) ≡ true = eq-eqb a b q in cc in omega arith) e

of_itself : (r : Record) → of_process r.process r ≡ 1
of_itself r = ap one_if (eq-eqb r.process r.process refl)

-- where no record has a process, a record's process is another
other_process : (p : ℕ) (r : Record) (ps : List Place) → In r ps → total (of_process p) ps ≡ 0 → r.process ≢ p
other_process p r ps i z q =
    let one : of_process p r ≡ 1 = ap one_if (eq-eqb r.process p q) in
    let x = total_in (of_process p) r ps i in
    omega arith

-- what is known of a process that nothing has passed with is `start`
module _ (X : Type 0) (start : X) (G : Record → Pipe → X → Type 0) where
  -- a record's process is open, and more
  abbrev pub GoodAt : Record → Process → X → Type 0
  GoodAt r gone h = ⊥
  GoodAt r (live q) h = G r q h

  pub record Inv (ps : List Place) (ws : List Process) (b : ℕ → X) : Type 0 where
    pub as_many : open_total ws ≡ total (λ r. 1) ps
    pub one_to_each : (p : ℕ) → total (of_process p) ps ≡ one_if (is_open (at ws p))
    pub keys_differ : (k : Key) → total (of_key k) ps ≤ 1
    pub good : (r : Record) → In r ps → GoodAt r (at ws r.process) (b r.process)
    pub unborn : (p : ℕ) → length ws ≤ p → b p ≡ start

  is_live : (r : Record) (q : Process) (h : X) → GoodAt r q h → one_if (is_open q) ≡ 1
  is_live r gone h g = absurd g
  is_live r (live q) h g = refl

  good_same : (r : Record) (p q : Process) (h h' : X) → p ≡ q → h ≡ h' → GoodAt r q h' → GoodAt r p h
  good_same r p q h h' e e' g = subst (λ z. GoodAt r z h) (sym e) (subst (GoodAt r q) (sym e') g)

  -- a record leaves with its process
  module _ (ps qs : List Place) (ws : List Process) (b b' : ℕ → X) (v : Inv ps ws b) (r : Record) (i : In r ps) (l : Loses ps r qs) (u : But r.process b b') where
    live_here : one_if (is_open (at ws r.process)) ≡ 1
    live_here = is_live r (at ws r.process) (b r.process) (v.good r i)

    in_ws : r.process < length ws
    in_ws = within ws r.process live_here

    leave_each : (p : ℕ) → Same p r.process → total (of_process p) qs ≡ one_if (is_open (at (slice_set ws r.process gone) p))
    leave_each p (equal e t) =
        let now : one_if (is_open (at (slice_set ws r.process gone) p)) ≡ 0 = ap (λ n. one_if (is_open (at (slice_set ws r.process gone) n))) e ∙ ap (λ x. one_if (is_open x)) (get_or-set_same ws r.process gone gone in_ws) in
        let one : of_process p r ≡ 1 = ap (λ n. of_process n r) e ∙ of_itself r in
        let before : one_if (is_open (at ws p)) ≡ 1 = ap (λ n. one_if (is_open (at ws n))) e ∙ live_here in
        let x = l.less (of_process p) in
        let y = v.one_to_each p in
        omega arith
    leave_each p (apart n t) =
        let now = ap (λ x. one_if (is_open x)) (get_or-set_other ws r.process p gone gone n) in
        let none : of_process p r ≡ 0 = ap one_if (ne_eqb r.process p (λ e. n (sym e))) in
        let x = l.less (of_process p) in
        let y = v.one_to_each p in
        omega arith

    none_left : total (of_process r.process) qs ≡ 0
    none_left =
        let x = l.less (of_process r.process) in
        let y = v.one_to_each r.process in
        let z = of_itself r in
        let a = live_here in
        omega arith

    pub leave : Inv qs (slice_set ws r.process gone) b'
    leave = record {
      as_many = let x = open_set ws r.process gone in_ws in let y = l.less (λ s. 1) in let z = v.as_many in let a = live_here in omega arith;
      one_to_each = λ p. leave_each p (same p r.process);
      keys_differ = λ k. let x = l.less (of_key k) in let y = v.keys_differ k in omega arith;
      good = λ s j.
          let far : s.process ≢ r.process = other_process r.process s qs j none_left in
          good_same s _ _ _ _ (get_or-set_other ws r.process s.process gone gone far) (u s.process far) (v.good s (l.only s j));
      unborn = λ p x.
          let y : length ws ≤ p = subst (λ n. n ≤ p) (length-set ws r.process gone) x in
          u p (λ e. let z = in_ws in absurd (omega arith)) ∙ v.unborn p y;
    }

  -- a record enters with a process
  module _ (ps qs : List Place) (ws : List Process) (b b' : ℕ → X) (v : Inv ps ws b) (r : Record) (l : Gains ps r qs) (q : Pipe) (shut : at ws r.process ≡ gone) (in_ws : r.process < length ws)
      (unused : total (of_key r.key) ps ≡ 0) (u : But r.process b b') (g : G r q (b' r.process)) where
    none_here : one_if (is_open (at ws r.process)) ≡ 0
    none_here = ap (λ x. one_if (is_open x)) shut

    enter_each : (p : ℕ) → Same p r.process → total (of_process p) qs ≡ one_if (is_open (at (slice_set ws r.process (live q)) p))
    enter_each p (equal e t) =
        let now : one_if (is_open (at (slice_set ws r.process (live q)) p)) ≡ 1 =
        ap (λ n. one_if (is_open (at (slice_set ws r.process (live q)) n))) e ∙ ap (λ x. one_if (is_open x)) (get_or-set_same ws r.process (live q) gone in_ws) in
        let one : of_process p r ≡ 1 = ap (λ n. of_process n r) e ∙ of_itself r in
        let before : one_if (is_open (at ws p)) ≡ 0 = ap (λ n. one_if (is_open (at ws n))) e ∙ none_here in
        let x = l.more (of_process p) in
        let y = v.one_to_each p in
        omega arith
    enter_each p (apart n t) =
        let now = ap (λ x. one_if (is_open x)) (get_or-set_other ws r.process p (live q) gone n) in
        let none : of_process p r ≡ 0 = ap one_if (ne_eqb r.process p (λ e. n (sym e))) in
        let x = l.more (of_process p) in
        let y = v.one_to_each p in
        omega arith

    enter_key : (k : Key) → (t : Bool) → same_key r.key k ≡ t → total (of_key k) qs ≤ 1
    enter_key k true t =
        let x = l.more (of_key k) in
        let y = of_key_same r.key k ps t in
        let z = ap one_if t in
        omega (arith, unused)
    enter_key k false t = let x = l.more (of_key k) in let y = v.keys_differ k in let z = ap one_if t in omega arith

    none_yet : total (of_process r.process) ps ≡ 0
    none_yet = v.one_to_each r.process ∙ none_here

    enter_good : (s : Record) → (s ≡ r) ⊎ In s ps → GoodAt s (at (slice_set ws r.process (live q)) s.process) (b' s.process)
    enter_good s (inl e) =
        subst (λ x. GoodAt x (at (slice_set ws r.process (live q)) x.process) (b' x.process)) (sym e)
        (good_same r _ _ _ _ (get_or-set_same ws r.process (live q) gone in_ws) refl g)
    enter_good s (inr i) =
        let far : s.process ≢ r.process = other_process r.process s ps i none_yet in
        good_same s _ _ _ _ (get_or-set_other ws r.process s.process (live q) gone far) (u s.process far) (v.good s i)

    pub enter : Inv qs (slice_set ws r.process (live q)) b'
    enter = record {
      as_many = let x = open_set ws r.process (live q) in_ws in let y = l.more (λ s. 1) in let z = v.as_many in let a = none_here in omega arith;
      one_to_each = λ p. enter_each p (same p r.process);
      keys_differ = λ k. enter_key k (same_key r.key k) refl;
      good = λ s j. enter_good s (l.only s j);
      unborn = λ p x.
          let y : length ws ≤ p = subst (λ n. n ≤ p) (length-set ws r.process (live q)) x in
          u p (λ e. absurd (omega arith)) ∙ v.unborn p y;
    }

  -- a process more, that is not open
  pub more : (ps : List Place) (ws : List Process) (b b' : ℕ → X) → Inv ps ws b → But (length ws) b b' → Inv ps (ws ++ gone ∷ []) b'
  more ps ws b b' v u = record {
    as_many = open_push ws gone ∙ (let d = v.as_many in omega arith);
    one_to_each = λ p. v.one_to_each p ∙ sym (ap (λ x. one_if (is_open x)) (at_push ws p));
    keys_differ = v.keys_differ;
    good = λ r i. good_same r _ _ _ _ (at_push ws r.process) (u r.process (inside r i)) (v.good r i);
    unborn = λ p x.
        let y : length ws + 1 ≤ p = subst (λ n. n ≤ p) (length_push ws gone) x in
        u p (λ e. absurd (omega arith)) ∙ v.unborn p (omega arith);
  }
    where
      inside : (r : Record) → In r ps → r.process ≢ length ws
      inside r i e = let y = within ws r.process (is_live r (at ws r.process) (b r.process) (v.good r i)) in omega arith

  -- what may become of a seat and of its process
  pub record Sits (ws : List Process) (b : ℕ → X) (seat : Seat) : Type 0 where
    pub out : (b' : ℕ → X) → But seat.of.process b b' → Inv seat.free (slice_set ws seat.of.process gone) b'
    pub back : (m : ℕ) (o : Option Operation) (q : Pipe) (b' : ℕ → X) → But seat.of.process b b' → G (seated seat.of m o) q (b' seat.of.process)
        → Inv (seat.holding (seated seat.of m o)) (slice_set ws seat.of.process (live q)) b'
    pub inside : seat.of.process < length ws

  pub sits_there : (s : State) (b : ℕ → X) → Inv s.table s.world.procs b → (r : Record) → In r s.table → Sits s.world.procs b (its_seat s r)
  sits_there s b v r i = record {
    out = λ b' u. leave s.table (without s.table r.key) s.world.procs b b' v r i goes u;
    back = λ m o q b' u g.
        subst (λ xs. Inv (changed (λ x. seated r m o) s.table r.key) xs b') (set-set s.world.procs r.process gone (live q))
        (enter (without s.table r.key) (changed (λ x. seated r m o) s.table r.key) (slice_set s.world.procs r.process gone) b b' (leave s.table (without s.table r.key) s.world.procs b b v r i goes (λ n x. refl)) (seated r m o)
        (changed_gains (λ x. seated r m o) r r.key s.table found once) q
        (get_or-set_same s.world.procs r.process gone gone inside) (subst (λ n. r.process < n) (sym (length-set s.world.procs r.process gone)) inside) unused u g);
    inside = inside;
  }
    where
      once : total (of_key r.key) s.table ≤ 1
      once = v.keys_differ r.key

      found : lookup s.table r.key ≡ Some r
      found = its_lookup r s.table i once

      goes : Loses s.table r (without s.table r.key)
      goes = without_loses r r.key s.table found once

      inside : r.process < length s.world.procs
      inside = within s.world.procs r.process (is_live r (at s.world.procs r.process) (b r.process) (v.good r i))

      unused : total (of_key r.key) (without s.table r.key) ≡ 0
      unused = let x = goes.less (of_key r.key) in let y = ap one_if (same_key_refl r.key) in let z = once in omega arith

  -- a seat for a record that is to come: its process is the newest
  pub sits_new : (ps : List Place) (ws : List Process) (b : ℕ → X) → Inv ps ws b → (r : Record) (q : Pipe) → has_free ps ≡ true → total (of_key r.key) ps ≡ 0 → r.process ≡ length ws
      → Sits (ws ++ live q ∷ []) b (new_seat ps q r)
  sits_new ps ws b v r q free unused e = record {
    out = λ b' u. subst (λ xs. Inv ps xs b') (sym (set_at ws (live q) [] gone r.process (sym e))) (more ps ws b b' v (subst (λ n. But n b b') e u));
    back = λ m o x b' u g.
        subst (λ xs. Inv (unwrap_or (put_first_free ps (seated r m o)) ps) xs b')
        (set_at ws gone [] (live x) r.process (sym e) ∙ sym (set_at ws (live q) [] (live x) r.process (sym e)))
        (enter ps (unwrap_or (put_first_free ps (seated r m o)) ps) (ws ++ gone ∷ []) b b' (more ps ws b b v (λ n y. refl)) (seated r m o) (put_gains (seated r m o) ps free) x
        (at_push ws r.process ∙ get_or_past ws r.process gone (omega arith)) (let y = length_push ws gone in omega arith) unused u g);
    inside = let y = length_push ws (live q) in omega arith;
  }
