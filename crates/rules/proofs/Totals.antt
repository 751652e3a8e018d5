-- What places hold, counted, and what a change of the places does to every count.
use Rattle.std.proofs.Common.{◌≡◌, ℕ, zero, suc, ◌+◌, ◌<◌, ◌≤◌, Bool, true, false, cond, List, [], ◌∷◌, length, Some, None, Option, ◌⊎◌, inl, inr, sym, refl, ap, ◌∙◌, subst, arith, bytes_eq}
use Rattle.std.specs.Prelude.{if◌then◌else◌, option_map, find, unwrap_or, ◌==◌}
use Rattle.std.specs.List.{All, count_by}
use Rattle.std.proofs.lemmas.List.Sums.{sum_by-cons}
use Rattle.std.proofs.lemmas.Bool.{eqb-true}
use Rattle.std.proofs.lemmas.Slice.Eq.{bytes_eq-Decides}
use Rattle.records.specs.declared.key.Key.{Key}
use Rattle.records.specs.declared.record.Record.{Record}
use Rattle.records.specs.Keys.{key_bytes, same_key}
use Rattle.records.specs.Places.{Place}
use Rattle.records.specs.Records.{held, lookup, without, changed, put_first_free}
use Rattle.rules.specs.Stories.{one_if}
use Rattle.rules.specs.Steps.{has_free}

-- the sum of a number of each record
abbrev pub total : (Record → ℕ) → List Place → ℕ
total f [] = 0
total f (None ∷ ps) = total f ps
total f (Some r ∷ ps) = f r + total f ps

-- a record is held
abbrev pub In : Record → List Place → Type 0
In r [] = ⊥
In r (None ∷ ps) = In r ps
In r (Some s ∷ ps) = (s ≡ r) ⊎ In r ps

-- one record goes; one comes
pub record Loses (ps : List Place) (r : Record) (qs : List Place) : Type 0 where
  pub less : (f : Record → ℕ) → total f qs + f r ≡ total f ps
  pub only : (s : Record) → In s qs → In s ps

pub record Gains (ps : List Place) (r : Record) (qs : List Place) : Type 0 where
  pub more : (f : Record → ℕ) → total f qs ≡ total f ps + f r
  pub only : (s : Record) → In s qs → (s ≡ r) ⊎ In s ps

abbrev pub of_key : Key → Record → ℕ
of_key k r = one_if (same_key r.key k)

abbrev pub of_process : ℕ → Record → ℕ
of_process p r = one_if (r.process == p)

pub total_in : (f : Record → ℕ) (r : Record) (ps : List Place) → In r ps → f r ≤ total f ps
total_in f r [] i = absurd i
total_in f r (None ∷ ps) i = total_in f r ps i
total_in f r (Some s ∷ ps) (inl e) = let x = ap f e in omega arith
total_in f r (Some s ∷ ps) (inr i) = let x = total_in f r ps i in omega arith

pub same_key_refl : (k : Key) → same_key k k ≡ true
same_key_refl k = (bytes_eq-Decides (key_bytes k) (key_bytes k)).1 refl

pub same_key_bytes : (a b : Key) → same_key a b ≡ true → key_bytes a ≡ key_bytes b
same_key_bytes a b e = (bytes_eq-Decides (key_bytes a) (key_bytes b)).0 e

pub of_key_same : (a b : Key) (ps : List Place) → same_key a b ≡ true → total (of_key b) ps ≡ total (of_key a) ps
of_key_same a b ps e = ap (λ bytes. total (λ r. one_if (bytes_eq (key_bytes r.key) bytes)) ps) (sym (same_key_bytes a b e))

-- Searches

pub found_in : (test : Record → Bool) (ps : List Place) (r : Record) → find test (held ps) ≡ Some r → In r ps × (test r ≡ true)
found_in test [] r e = let z : ◌≡◌ {A = ℕ} 0 1 = cc in absurd (omega arith)
found_in test (None ∷ ps) r e = found_in test ps r e
found_in test (Some s ∷ ps) r e = go (test s) refl e (λ e'. found_in test ps r e')
  where
    go : (b : Bool) → test s ≡ b → cond b (Some s) (find test (held ps)) ≡ Some r → (find test (held ps) ≡ Some r → In r ps × (test r ≡ true)) → In r (Some s ∷ ps) × (test r ≡ true)
    go true t e' ih = let same : s ≡ r = cc in (inl same, ap test (sym same) ∙ t)
    go false t e' ih = let h = ih e' in (inr h.0, h.1)

pub found_none : (test : Record → Bool) (ps : List Place) → find test (held ps) ≡ None → total (λ r. one_if (test r)) ps ≡ 0
found_none test [] e = refl
found_none test (None ∷ ps) e = found_none test ps e
found_none test (Some s ∷ ps) e = go (test s) refl e (λ e'. found_none test ps e')
  where
    go : (b : Bool) → test s ≡ b → cond b (Some s) (find test (held ps)) ≡ None → (find test (held ps) ≡ None → total (λ r. one_if (test r)) ps ≡ 0) → one_if (test s) + total (λ r. one_if (test r)) ps ≡ 0
    go true t e' ih = let z : ◌≡◌ {A = ℕ} 0 1 = cc in absurd (omega arith)
    go false t e' ih = let x = ih e' in let y = ap one_if t in omega arith

-- a held record is the one that its key finds
pub its_lookup : (r : Record) (ps : List Place) → In r ps → total (of_key r.key) ps ≤ 1 → lookup ps r.key ≡ Some r
its_lookup r [] i once = absurd i
its_lookup r (None ∷ ps) i once = its_lookup r ps i once
its_lookup r (Some s ∷ ps) i once = go (same_key s.key r.key) refl i (λ i' o. its_lookup r ps i' o)
  where
    go : (b : Bool) → same_key s.key r.key ≡ b → (s ≡ r) ⊎ In r ps → (In r ps → total (of_key r.key) ps ≤ 1 → lookup ps r.key ≡ Some r) → cond b (Some s) (lookup ps r.key) ≡ Some r
    go true t (inl e) ih = ap (λ x. Some x) e
    go true t (inr i') ih =
        let x = total_in (of_key r.key) r ps i' in let y = ap one_if (same_key_refl r.key) in let z = ap one_if t in absurd (omega arith)
    go false t (inl e) ih =
        let y = ap one_if (ap (λ (x : Record). same_key x.key r.key) e ∙ same_key_refl r.key) in let z = ap one_if t in absurd (omega arith)
    go false t (inr i') ih = ih i' (let z = ap one_if t in omega arith)

-- where a process is counted, a record has it
pub one_of : (p : ℕ) (ps : List Place) → 0 < total (of_process p) ps → (r : Record) × In r ps × (r.process ≡ p)
one_of p [] h = absurd (omega arith)
one_of p (None ∷ ps) h = one_of p ps h
one_of p (Some s ∷ ps) h = go (s.process == p) refl h (λ h'. one_of p ps h')
  where
    go : (b : Bool) → (s.process == p) ≡ b → 0 < one_if b + total (of_process p) ps → (0 < total (of_process p) ps → (r : Record) × In r ps × (r.process ≡ p)) → (r : Record) × In r (Some s ∷ ps) × (r.process ≡ p)
    go true t h' ih = (s, inl refl, eqb-true s.process p t)
    go false t h' ih = let f = ih (omega arith) in (f.0, inr f.1, f.2)

-- Changes

pub without_none : (k : Key) (ps : List Place) → total (of_key k) ps ≡ 0 → without ps k ≡ ps
without_none k [] e = refl
without_none k (None ∷ ps) e = ap (λ qs. None ∷ qs) (without_none k ps e)
without_none k (Some s ∷ ps) e = go (same_key s.key k) refl (λ z. without_none k ps z)
  where
    go : (b : Bool) → same_key s.key k ≡ b → (total (of_key k) ps ≡ 0 → without ps k ≡ ps) → (if b then None else Some s) ∷ without ps k ≡ Some s ∷ ps
    go true t ih = let z = ap one_if t in absurd (omega arith)
    go false t ih = ap (λ qs. Some s ∷ qs) (ih (omega arith))

changed_none : (g : Record → Record) (k : Key) (ps : List Place) → total (of_key k) ps ≡ 0 → changed g ps k ≡ ps
changed_none g k [] e = refl
changed_none g k (None ∷ ps) e = ap (λ qs. None ∷ qs) (changed_none g k ps e)
changed_none g k (Some s ∷ ps) e = go (same_key s.key k) refl (λ z. changed_none g k ps z)
  where
    go : (b : Bool) → same_key s.key k ≡ b → (total (of_key k) ps ≡ 0 → changed g ps k ≡ ps) → (if b then option_map g (Some s) else Some s) ∷ changed g ps k ≡ Some s ∷ ps
    go true t ih = let z = ap one_if t in absurd (omega arith)
    go false t ih = ap (λ qs. Some s ∷ qs) (ih (omega arith))

-- a record ahead
loses_more : (s r : Record) (ps qs : List Place) → Loses ps r qs → Loses (Some s ∷ ps) r (Some s ∷ qs)
loses_more s r ps qs l = record { less = λ f. let x = l.less f in omega arith; only = λ x i. go x i }
  where
    go : (x : Record) → (s ≡ x) ⊎ In x qs → (s ≡ x) ⊎ In x ps
    go x (inl e) = inl e
    go x (inr i) = inr (l.only x i)

gains_more : (s r : Record) (ps qs : List Place) → Gains ps r qs → Gains (Some s ∷ ps) r (Some s ∷ qs)
gains_more s r ps qs l = record { more = λ f. let x = l.more f in omega arith; only = λ x i. go x i }
  where
    more : (x : Record) → (x ≡ r) ⊎ In x ps → (x ≡ r) ⊎ ((s ≡ x) ⊎ In x ps)
    more x (inl e) = inl e
    more x (inr i) = inr (inr i)

    go : (x : Record) → (s ≡ x) ⊎ In x qs → (x ≡ r) ⊎ ((s ≡ x) ⊎ In x ps)
    go x (inl e) = inr (inl e)
    go x (inr i) = more x (l.only x i)

-- the first record goes
loses_first : (r : Record) (ps : List Place) → Loses (Some r ∷ ps) r (None ∷ ps)
loses_first r ps = record { less = λ f. omega arith; only = λ x i. inr i }

gains_first : (r : Record) (ps : List Place) → Gains (None ∷ ps) r (Some r ∷ ps)
gains_first r ps = record { more = λ f. omega arith; only = λ x i. go x i }
  where
    go : (x : Record) → (r ≡ x) ⊎ In x ps → (x ≡ r) ⊎ In x ps
    go x (inl e) = inl (sym e)
    go x (inr i) = inr i

pub without_loses : (r : Record) (k : Key) (ps : List Place) → lookup ps k ≡ Some r → total (of_key k) ps ≤ 1 → Loses ps r (without ps k)
without_loses r k [] e once = let z : ◌≡◌ {A = ℕ} 0 1 = cc in absurd (omega arith)
without_loses r k (None ∷ ps) e once = let l = without_loses r k ps e once in record { less = l.less; only = l.only }
without_loses r k (Some s ∷ ps) e once = go (same_key s.key k) refl e (λ e' o. without_loses r k ps e' o)
  where
    go : (b : Bool) → same_key s.key k ≡ b → cond b (Some s) (lookup ps k) ≡ Some r → (lookup ps k ≡ Some r → total (of_key k) ps ≤ 1 → Loses ps r (without ps k)) → Loses (Some s ∷ ps) r ((if b then None else Some s) ∷ without ps k)
    go true t e' ih =
        let same : s ≡ r = cc in
        subst (λ qs. Loses (Some s ∷ ps) r (None ∷ qs)) (sym (without_none k ps (let z = ap one_if t in omega arith))) (subst (λ x. Loses (Some x ∷ ps) r (None ∷ ps)) (sym same) (loses_first r ps))
    go false t e' ih = loses_more s r ps (without ps k) (ih e' (let z = ap one_if t in omega arith))

pub changed_gains : (g : Record → Record) (r : Record) (k : Key) (ps : List Place) → lookup ps k ≡ Some r → total (of_key k) ps ≤ 1 → Gains (without ps k) (g r) (changed g ps k)
changed_gains g r k [] e once = let z : ◌≡◌ {A = ℕ} 0 1 = cc in absurd (omega arith)
changed_gains g r k (None ∷ ps) e once = let l = changed_gains g r k ps e once in record { more = l.more; only = l.only }
changed_gains g r k (Some s ∷ ps) e once = go (same_key s.key k) refl e (λ e' o. changed_gains g r k ps e' o)
  where
    go : (b : Bool) → same_key s.key k ≡ b → cond b (Some s) (lookup ps k) ≡ Some r → (lookup ps k ≡ Some r → total (of_key k) ps ≤ 1 → Gains (without ps k) (g r) (changed g ps k))
        → Gains ((if b then None else Some s) ∷ without ps k) (g r) ((if b then option_map g (Some s) else Some s) ∷ changed g ps k)
    go true t e' ih =
        let same : s ≡ r = cc in
        let none : total (of_key k) ps ≡ 0 = (let z = ap one_if t in omega arith) in
        subst (λ qs. Gains (None ∷ qs) (g r) (Some (g s) ∷ changed g ps k)) (sym (without_none k ps none))
        (subst (λ qs. Gains (None ∷ ps) (g r) (Some (g s) ∷ qs)) (sym (changed_none g k ps none)) (subst (λ x. Gains (None ∷ ps) (g r) (Some (g x) ∷ ps)) (sym same) (gains_first (g r) ps)))
    go false t e' ih = gains_more s (g r) (without ps k) (changed g ps k) (ih e' (let z = ap one_if t in omega arith))

abbrev pub Placed : List Place → Record → Option (List Place) → Type 0
Placed ps r None = ⊥
Placed ps r (Some qs) = Gains ps r qs

pub placed : (r : Record) (ps : List Place) → has_free ps ≡ true → Placed ps r (put_first_free ps r)
placed r [] e = let z : ◌≡◌ {A = ℕ} 0 1 = cc in absurd (omega arith)
placed r (None ∷ ps) e = gains_first r ps
placed r (Some s ∷ ps) e = go (put_first_free ps r) (placed r ps e)
  where
    go : (o : Option (List Place)) → Placed ps r o → Placed (Some s ∷ ps) r (option_map (λ after. Some s ∷ after) o)
    go None h = h
    go (Some qs) h = gains_more s r ps qs h

pub put_gains : (r : Record) (ps : List Place) → has_free ps ≡ true → Gains ps r (unwrap_or (put_first_free ps r) ps)
put_gains r ps e = go (put_first_free ps r) (placed r ps e)
  where
    go : (o : Option (List Place)) → Placed ps r o → Gains ps r (unwrap_or o ps)
    go None h = absurd h
    go (Some qs) h = h

-- Counts in the library's words

pub count_total : (test : Record → Bool) (ps : List Place) → count_by test (held ps) ≡ total (λ r. one_if (test r)) ps
count_total test [] = refl
count_total test (None ∷ ps) = count_total test ps
count_total test (Some r ∷ ps) = sum_by-cons (λ x. cond (test x) 1 0) r (held ps) ∙ ap (λ n. one_if (test r) + n) (count_total test ps)

pub length_total : (ps : List Place) → length (held ps) ≡ total (λ r. 1) ps
length_total [] = refl
length_total (None ∷ ps) = length_total ps
length_total (Some r ∷ ps) = let x = length_total ps in omega arith

pub all_held : (P : Record → Type 0) (ps : List Place) → ((r : Record) → In r ps → P r) → All P (held ps)
all_held P [] h k d l = absurd (omega arith)
all_held P (None ∷ ps) h k d l = all_held P ps h k d l
all_held P (Some s ∷ ps) h zero d l = h s (inl refl)
all_held P (Some s ∷ ps) h (suc k) d l = all_held P ps (λ r i. h r (inr i)) k d (omega arith)

pub none_held : (f : Record → ℕ) (ps : List Place) → held ps ≡ [] → total f ps ≡ 0
none_held f [] e = refl
none_held f (None ∷ ps) e = none_held f ps e
none_held f (Some r ∷ ps) e = let z = ap length e in absurd (omega arith)

pub none_in : (r : Record) (ps : List Place) → held ps ≡ [] → In r ps → ⊥
none_in r [] e i = i
none_in r (None ∷ ps) e i = none_in r ps e i
none_in r (Some s ∷ ps) e i = let z = ap length e in omega arith
