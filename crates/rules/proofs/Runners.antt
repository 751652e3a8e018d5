-- The key's runners are a table's records: counted in any way they are as many.
use Rattle.std.proofs.Common.{◌≡◌, ℕ, suc, ◌+◌, ◌≤◌, Bool, true, false, cond, not, ◌||◌, List, [], ◌∷◌, ◌++◌, map, length, Some, None, Option, sym, refl, ap, ◌∙◌, arith}
use Rattle.std.specs.Prelude.{is_some, nat_lt, find, unwrap_or, option_map, ◌==◌}
use Rattle.std.specs.List.{list_any, count_by}
use Rattle.std.proofs.lemmas.List.{get_or_past, length-map}
use Rattle.std.proofs.lemmas.List.Sums.{sum_by-cons}
use Rattle.std.proofs.lemmas.Bool.{eq-eqb, lt-ltb}
use Rattle.host.specs.Worlds.{Pipe, Process, gone}
use Rattle.records.specs.declared.operation.Operation.{Operation}
use Rattle.records.specs.declared.record.Record.{Record}
use Rattle.records.specs.Keys.{same_key}
use Rattle.records.specs.Places.{Place}
use Rattle.records.specs.Records.{held, is_reading, lookup, without, changed, put_first_free}
use Rattle.rules.specs.Steps.{State, Seat, its_seat, new_seat, seated, has_free}
use Rattle.rules.specs.Stories.{one_if}
use Rattle.rules.specs.Lives.{is_open}
use Rattle.rules.specs.Key.{Runner, runner, is_running, others}
use Rattle.rules.proofs.Totals.{total, In, Loses, Gains, of_process, total_in, found_in, found_none, its_lookup, without_loses, changed_gains, put_gains}
use Rattle.rules.proofs.Seats.{at, Inv}

abbrev pub runner_of : Record → Runner
runner_of r = runner r.process (is_reading r)

-- the sum of a number of each runner
abbrev pub tally : (Runner → ℕ) → List Runner → ℕ
tally f [] = 0
tally f (x ∷ rs) = f x + tally f rs

-- the runners are the records of a table with so many places
pub record Matches (places : ℕ) (rs : List Runner) (ps : List Place) : Type 0 where
  pub counts : (f : Runner → ℕ) → tally f rs ≡ total (λ r. f (runner_of r)) ps
  pub long : length ps ≡ places

-- Tests

any_tally : (test : Runner → Bool) (rs : List Runner) → list_any test rs ≡ nat_lt 0 (tally (λ x. one_if (test x)) rs)
any_tally test [] = refl
any_tally test (x ∷ rs) = go (test x) (any_tally test rs)
  where
    go : (b : Bool) → list_any test rs ≡ nat_lt 0 (tally (λ y. one_if (test y)) rs) → (b || list_any test rs) ≡ nat_lt 0 (one_if b + tally (λ y. one_if (test y)) rs)
    go true ih = sym (lt-ltb 0 (1 + tally (λ y. one_if (test y)) rs) (omega arith))
    go false ih = ih ∙ ap (nat_lt 0) (omega arith)

any_held : (test : Record → Bool) (ps : List Place) → list_any test (held ps) ≡ nat_lt 0 (total (λ r. one_if (test r)) ps)
any_held test [] = refl
any_held test (None ∷ ps) = any_held test ps
any_held test (Some r ∷ ps) = go (test r) (any_held test ps)
  where
    go : (b : Bool) → list_any test (held ps) ≡ nat_lt 0 (total (λ y. one_if (test y)) ps) → (b || list_any test (held ps)) ≡ nat_lt 0 (one_if b + total (λ y. one_if (test y)) ps)
    go true ih = sym (lt-ltb 0 (1 + total (λ y. one_if (test y)) ps) (omega arith))
    go false ih = ih ∙ ap (nat_lt 0) (omega arith)

-- runners and records pass a test alike
pub any_same : (places : ℕ) (rs : List Runner) (ps : List Place) → Matches places rs ps → (test : Runner → Bool) → list_any test rs ≡ list_any (λ r. test (runner_of r)) (held ps)
any_same places rs ps m test = any_tally test rs ∙ ap (nat_lt 0) (m.counts (λ x. one_if (test x))) ∙ sym (any_held (λ r. test (runner_of r)) ps)

-- a search tests whether one passes
pub none_found : (test : Record → Bool) (ps : List Place) → find test (held ps) ≡ None → list_any test (held ps) ≡ false
none_found test ps e = any_held test ps ∙ ap (nat_lt 0) (found_none test ps e)

pub some_found : (test : Record → Bool) (ps : List Place) (r : Record) → find test (held ps) ≡ Some r → list_any test (held ps) ≡ true
some_found test ps r e =
    let i = found_in test ps r e in
    let x = total_in (λ y. one_if (test y)) r ps i.0 in
    let y = ap one_if i.1 in
    any_held test ps ∙ lt-ltb 0 (total (λ z. one_if (test z)) ps) (omega arith)

one_or_none : (b : Bool) → nat_lt 0 (one_if b) ≡ b
one_or_none true = refl
one_or_none false = refl

pub at_most_one : (b : Bool) → one_if b ≤ 1
at_most_one true = omega arith
at_most_one false = omega arith

-- Changes

tally_push : (f : Runner → ℕ) (rs : List Runner) (x : Runner) → tally f (rs ++ x ∷ []) ≡ tally f rs + f x
tally_push f [] x = omega arith
tally_push f (y ∷ rs) x = let ih = tally_push f rs x in omega arith

tally_others : (f : Runner → ℕ) (p : ℕ) (rs : List Runner) → tally f (others p rs) ≡ tally (λ x. cond (x.process == p) 0 (f x)) rs
tally_others f p [] = refl
tally_others f p (y ∷ rs) = go (y.process == p) (tally_others f p rs)
  where
    go : (b : Bool) → tally f (others p rs) ≡ tally (λ x. cond (x.process == p) 0 (f x)) rs
        → tally f (cond (not b) (y ∷ others p rs) (others p rs)) ≡ cond b 0 (f y) + tally (λ x. cond (x.process == p) 0 (f x)) rs
    go true ih = omega (arith, ih)
    go false ih = ap (λ n. f y + n) ih

-- where no record has a process, nothing is lost without it
total_others : (g : Record → ℕ) (p : ℕ) (ps : List Place) → total (of_process p) ps ≡ 0 → total (λ r. cond (r.process == p) 0 (g r)) ps ≡ total g ps
total_others g p [] z = refl
total_others g p (None ∷ ps) z = total_others g p ps z
total_others g p (Some r ∷ ps) z = go (r.process == p) z (λ y. total_others g p ps y)
  where
    go : (b : Bool) → one_if b + total (of_process p) ps ≡ 0 → (total (of_process p) ps ≡ 0 → total (λ s. cond (s.process == p) 0 (g s)) ps ≡ total g ps)
        → cond b 0 (g r) + total (λ s. cond (s.process == p) 0 (g s)) ps ≡ g r + total g ps
    go true y ih = absurd (omega arith)
    go false y ih = ap (λ n. g r + n) (ih (omega arith))

module _ (places : ℕ) where
  matches_away : (rs : List Runner) (ps : List Place) (p : ℕ) → Matches places rs ps → total (of_process p) ps ≡ 0 → Matches places (others p rs) ps
  matches_away rs ps p m z = record {
    counts = λ f. tally_others f p rs ∙ m.counts (λ x. cond (x.process == p) 0 (f x)) ∙ total_others (λ r. f (runner_of r)) p ps z;
    long = m.long;
  }

  matches_less : (rs : List Runner) (ps qs : List Place) (r : Record) → Matches places rs ps → Loses ps r qs → length qs ≡ places → total (of_process r.process) qs ≡ 0 → Matches places (others r.process rs) qs
  matches_less rs ps qs r m l n z = record {
    counts = λ f.
        let a = tally_others f r.process rs ∙ m.counts (λ x. cond (x.process == r.process) 0 (f x)) in
        let b = l.less (λ s. cond (s.process == r.process) 0 (f (runner_of s))) in
        let c : cond (r.process == r.process) 0 (f (runner_of r)) ≡ 0 = ap (λ y. cond y 0 (f (runner_of r))) (eq-eqb r.process r.process refl) in
        let d = total_others (λ s. f (runner_of s)) r.process qs z in
        omega arith;
    long = n;
  }

  matches_more : (rs : List Runner) (ps qs : List Place) (r : Record) → Matches places rs ps → Gains ps r qs → length qs ≡ places → Matches places (rs ++ runner_of r ∷ []) qs
  matches_more rs ps qs r m g n = record {
    counts = λ f. tally_push f rs (runner_of r) ∙ ap (λ x. x + f (runner_of r)) (m.counts f) ∙ sym (g.more (λ s. f (runner_of s)));
    long = n;
  }

  -- no record is left
  pub emptied : (rs : List Runner) (ps : List Place) → Matches places rs ps → Matches places [] (map (λ _. None) ps)
  emptied rs ps m = record { counts = λ f. none f ps; long = length-map ps (λ _. None) ∙ m.long }
    where
      none : (f : Runner → ℕ) (qs : List Place) → 0 ≡ total (λ r. f (runner_of r)) (map (λ _. None) qs)
      none f [] = refl
      none f (p ∷ qs) = none f qs

-- a record in a free place leaves as many places
put_long : (r : Record) (ps : List Place) → length (unwrap_or (put_first_free ps r) ps) ≡ length ps
put_long r [] = refl
put_long r (None ∷ ps) = refl
put_long r (Some s ∷ ps) = go (put_first_free ps r) (put_long r ps)
  where
    go : (o : Option (List Place)) → length (unwrap_or o ps) ≡ length ps → length (unwrap_or (option_map (λ after. Some s ∷ after) o) (Some s ∷ ps)) ≡ length (Some s ∷ ps)
    go None h = refl
    go (Some qs) h = ap suc h

-- Seats

-- what may become of a seat, and of its process's runner
pub record Fits (places : ℕ) (rs : List Runner) (known : Bool) (seat : Seat) : Type 0 where
  pub out : Matches places (others seat.of.process rs) seat.free
  pub back : (m : ℕ) (o : Option Operation) → Matches places (others seat.of.process rs ++ runner seat.of.process (is_some o) ∷ []) (seat.holding (seated seat.of m o))
  pub whether : is_running seat.of.process rs ≡ known

module _ {X : Type 0} {start : X} {G : Record → Pipe → X → Type 0} (ps : List Place) (ws : List Process) (b : ℕ → X) (v : Inv X start G ps ws b) (places : ℕ) (rs : List Runner) (m : Matches places rs ps) where
  -- a process runs exactly if it is open
  pub runs_open : (p : ℕ) → is_running p rs ≡ is_open (at ws p)
  runs_open p = any_tally (λ x. x.process == p) rs ∙ ap (nat_lt 0) (m.counts (λ x. one_if (x.process == p)) ∙ v.one_to_each p) ∙ one_or_none (is_open (at ws p))

  count_tally : (test : Runner → Bool) (xs : List Runner) → count_by test xs ≡ tally (λ x. one_if (test x)) xs
  count_tally test [] = refl
  count_tally test (x ∷ xs) = sum_by-cons (λ y. cond (test y) 1 0) x xs ∙ ap (λ n. one_if (test x) + n) (count_tally test xs)

  pub once_each : (p : ℕ) → count_by (λ x. x.process == p) rs ≤ 1
  once_each p =
      let a = count_tally (λ x. x.process == p) rs ∙ m.counts (λ x. one_if (x.process == p)) ∙ v.one_to_each p in
      let c = at_most_one (is_open (at ws p)) in
      omega arith

length_tally : (rs : List Runner) → length rs ≡ tally (λ x. 1) rs
length_tally [] = refl
length_tally (x ∷ rs) = let ih = length_tally rs in omega arith

places_hold : (ps : List Place) → total (λ r. 1) ps ≤ length ps
places_hold [] = omega arith
places_hold (None ∷ ps) = let ih = places_hold ps in omega arith
places_hold (Some r ∷ ps) = let ih = places_hold ps in omega arith

pub few_runners : (places : ℕ) (rs : List Runner) (ps : List Place) → Matches places rs ps → length rs ≤ places
few_runners places rs ps m = let a = length_tally rs ∙ m.counts (λ x. 1) in let b = places_hold ps in let c = m.long in omega arith

module _ {X : Type 0} {start : X} {G : Record → Pipe → X → Type 0} (s : State) (b : ℕ → X) (v : Inv X start G s.table s.world.procs b) (places : ℕ) (rs : List Runner) (m : Matches places rs s.table) where
  pub fits_known : (r : Record) → In r s.table → Fits places rs true (its_seat s r)
  fits_known r i = record {
    out = lost;
    back = λ n o.
        matches_more places (others r.process rs) (without s.table r.key) (changed (λ x. seated r n o) s.table r.key) (seated r n o) lost (changed_gains (λ x. seated r n o) r r.key s.table found once)
        (length-map s.table _ ∙ m.long);
    whether = runs_open s.table s.world.procs b v places rs m r.process ∙ open_here;
  }
    where
      once : total (λ x. one_if (same_key x.key r.key)) s.table ≤ 1
      once = v.keys_differ r.key

      found : lookup s.table r.key ≡ Some r
      found = its_lookup r s.table i once

      goes : Loses s.table r (without s.table r.key)
      goes = without_loses r r.key s.table found once

      itself : of_process r.process r ≡ 1
      itself = ap one_if (eq-eqb r.process r.process refl)

      total_one : one_if (is_open (at s.world.procs r.process)) ≡ 1
      total_one =
          let a = v.one_to_each r.process in
          let c = total_in (of_process r.process) r s.table i in
          let d = at_most_one (is_open (at s.world.procs r.process)) in
          let e = itself in
          omega arith

      open_here : is_open (at s.world.procs r.process) ≡ true
      open_here = sym (one_or_none (is_open (at s.world.procs r.process))) ∙ ap (nat_lt 0) total_one

      lost : Matches places (others r.process rs) (without s.table r.key)
      lost =
          matches_less places rs s.table (without s.table r.key) r m goes (length-map s.table _ ∙ m.long)
          (let a = v.one_to_each r.process in let c = goes.less (of_process r.process) in let d = total_one in let e = itself in omega arith)

  pub fits_new : (q : Pipe) (r : Record) → has_free s.table ≡ true → r.process ≡ length s.world.procs → Fits places rs false (new_seat s.table q r)
  fits_new q r free e = record {
    out = away;
    back = λ n o.
        matches_more places (others r.process rs) s.table (unwrap_or (put_first_free s.table (seated r n o)) s.table) (seated r n o) away (put_gains (seated r n o) s.table free)
        (put_long (seated r n o) s.table ∙ m.long);
    whether = runs_open s.table s.world.procs b v places rs m r.process ∙ shut;
  }
    where
      shut : is_open (at s.world.procs r.process) ≡ false
      shut = ap is_open (get_or_past s.world.procs r.process gone (omega arith))

      away : Matches places (others r.process rs) s.table
      away = matches_away places rs s.table r.process m (v.one_to_each r.process ∙ ap one_if shut)
