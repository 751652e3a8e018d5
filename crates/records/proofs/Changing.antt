-- What a change of one place is to the table, and to who looks for a record then.
use Rattle.std.specs.Prelude.{is_none, is_some, ok_or}
use Rattle.std.specs.Option.{option_or}
use Rattle.std.specs.Str.{bytes_eq}
use Rattle.std.proofs.Common.{◌≡◌, ◌≢◌, ◌⊎◌, ℕ, zero, suc, ◌<◌, ◌≤◌, true, false, cond, List, [], ◌∷◌, map, length, set, Some, None, Option, Ok, Err, Result, option_map, IsNone, sym, subst, refl, ap, ◌∙◌, ⊎_elim, inl, inr, arith}
use Rattle.std.proofs.lemmas.Bool.{both_ways, cases_eq, cases_lt, cond-true, cond-false}
use Rattle.std.proofs.lemmas.Bool.Decides.{same_from_decides}
use Rattle.std.proofs.lemmas.List.{get_or_past, get_or-set_same, get_or-set_other}
use Rattle.slices.specs.First.{IsFirst}
use Rattle.slices.proofs.Searches.{first_is}
use Rattle.records.specs.declared.key.Key.{Key}
use Rattle.records.specs.declared.record.Record.{Record}
use Rattle.records.specs.Keys.{key_bytes, same_key}
use Rattle.records.specs.Places.{Place, holds_key, clash, Distinct, place_of, free_place, place_for}
use Rattle.records.specs.Records.{held, lookup, without, changed, put_first_free, inserted, ChangesOnly}
use Rattle.records.proofs.Finding.{at, keys_agree, keys_same, keys_apart, holder, holds, elsewhere, inside, lookup_at, lookup_nowhere}

-- Places that stay distinct

clash_flip : (p q : Place) → clash p q ≡ clash q p
clash_flip None None = refl
clash_flip None (Some s) = refl
clash_flip (Some r) None = refl
clash_flip (Some r) (Some s) =
    same_from_decides {P = key_bytes r.key ≡ key_bytes s.key} (same_key r.key s.key) (same_key s.key r.key)
    (keys_agree r.key s.key, keys_same r.key s.key) ((λ h. sym (keys_agree s.key r.key h)), (λ e. keys_same s.key r.key (sym e)))

distinct_set : (places : List Place) (i : ℕ) (p : Place) → i < length places → ((j : ℕ) → j ≢ i → clash (at places j) p ≡ false) → Distinct places → Distinct (set places i p)
distinct_set places i p l new h a b lt =
    ⊎_elim
    (λ (e : a ≡ i).
    ap (λ x. clash x (at (set places i p) b)) (ap (at (set places i p)) e ∙ get_or-set_same places i p None l)
    ∙ ap (clash p) (get_or-set_other places i b p None (omega arith)) ∙ clash_flip p (at places b) ∙ new b (omega arith))
    (λ (na : a ≢ i).
    ap (λ x. clash x (at (set places i p) b)) (get_or-set_other places i a p None na)
    ∙ ⊎_elim
    (λ (e : b ≡ i). ap (clash (at places a)) (ap (at (set places i p)) e ∙ get_or-set_same places i p None l) ∙ new a na)
    (λ (nb : b ≢ i). ap (clash (at places a)) (get_or-set_other places i b p None nb) ∙ h a b lt)
    (cases_eq b i))
    (cases_eq a i)

-- a place that holds the record with a key is one of the places
within : (places : List Place) (k : Key) (i : ℕ) → holds_key k (at places i) ≡ true → i < length places
within places k i h = let r = holder k (at places i) h in inside places i r.0 r.1

-- a search that found none passed every place
nowhere : (places : List Place) (k : Key) → None ≡ place_of places k → (j : ℕ) → holds_key k (at places j) ≡ false
nowhere places k e j =
    let first : IsFirst (holds_key k) places None = first_is (holds_key k) places None e in
    ⊎_elim (λ l. first j None l) (λ l. ap (holds_key k) (get_or_past places j None l)) (cases_lt j (length places))

-- the place that a search found
pub finds : (places : List Place) (k : Key) (i : ℕ) → Some i ≡ place_of places k → holds_key k (at places i) ≡ true
finds places k i e =
    let first : IsFirst (holds_key k) places (Some i) = first_is (holds_key k) places (Some i) e in first.1 None

pub found_within : (places : List Place) (k : Key) (i : ℕ) → Some i ≡ place_of places k → i < length places
found_within places k i e = within places k i (finds places k i e)

pub distinct_freed : (places : List Place) (k : Key) (i : ℕ) → Some i ≡ place_of places k → Distinct places → Distinct (set places i None)
distinct_freed places k i e h = distinct_set places i None (found_within places k i e) (λ j ne. refl) h

-- a record whose key is that of the place's
distinct_same : (places : List Place) (i : ℕ) (r : Record) → holds_key r.key (at places i) ≡ true → Distinct places → Distinct (set places i (Some r))
distinct_same places i r at_i h = distinct_set places i (Some r) (within places r.key i at_i) (λ j ne. elsewhere places h r.key i j at_i ne) h

-- A map that changes one place

map_same : (f : Place → Place) (places : List Place) → ((j : ℕ) → f (at places j) ≡ at places j) → map f places ≡ places
map_same f [] h = refl
map_same f (p ∷ places) h = ap (λ x. x ∷ map f places) (h 0) ∙ ap (λ l. p ∷ l) (map_same f places (λ j. h (suc j)))

set_is_map : (f : Place → Place) (places : List Place) (i : ℕ) → i < length places → ((j : ℕ) → j ≢ i → f (at places j) ≡ at places j) → set places i (f (at places i)) ≡ map f places
set_is_map f [] i l h = absurd (omega arith)
set_is_map f (p ∷ places) zero l h = ap (λ l. f p ∷ l) (sym (map_same f places (λ j. h (suc j) (omega arith))))
set_is_map f (p ∷ places) (suc i) l h =
    ap (λ x. x ∷ set places i (f (at places i))) (sym (h 0 (omega arith)))
    ∙ ap (λ l. f p ∷ l) (set_is_map f places i (omega arith) (λ j ne. h (suc j) (omega arith)))

module _ (g : Place → Place) (places : List Place) (k : Key) where
  abbrev at_key : Place → Place
  at_key p = cond (holds_key k p) (g p) p

  pub set_at_key : Distinct places → (i : ℕ) → holds_key k (at places i) ≡ true → set places i (g (at places i)) ≡ map at_key places
  set_at_key distinct i h =
      ap (set places i) (sym (cond-true (holds_key k (at places i)) (g (at places i)) (at places i) h))
      ∙ set_is_map at_key places i (within places k i h) (λ j ne. cond-false (holds_key k (at places j)) _ _ (elsewhere places distinct k i j h ne))

  pub unknown_stays : None ≡ place_of places k → places ≡ map at_key places
  unknown_stays e = sym (map_same at_key places (λ j. cond-false (holds_key k (at places j)) _ _ (nowhere places k e j)))

-- What keys find then

-- keys of the same bytes find the same
lookup_same : (a b : Key) → key_bytes a ≡ key_bytes b → (places : List Place) → lookup places a ≡ lookup places b
lookup_same a b e [] = refl
lookup_same a b e (None ∷ places) = lookup_same a b e places
lookup_same a b e (Some r ∷ places) =
    ap (λ s. cond (bytes_eq (key_bytes r.key) s) (Some r) (lookup places a)) e ∙ ap (cond (same_key r.key b) (Some r)) (lookup_same a b e places)

module _ (k : Key) where
  freed_itself : (same : Key) → key_bytes same ≡ key_bytes k → (places : List Place) → lookup (without places k) same ≡ None
  freed_itself same e [] = refl
  freed_itself same e (None ∷ places) = freed_itself same e places
  freed_itself same e (Some r ∷ places) =
      elim (same_key r.key k) as (λ b. same_key r.key k ≡ b → lookup (cond b None (Some r) ∷ without places k) same ≡ None) [
        | true ↦ λ t. freed_itself same e places
        | false ↦ λ t.
            cond-false (same_key r.key same) (Some r) _ (keys_apart r.key same (λ s. both_ways _ t (keys_same r.key k (s ∙ e)))) ∙ freed_itself same e places
      ] refl

  freed_others : (other : Key) → key_bytes other ≢ key_bytes k → (places : List Place) → lookup (without places k) other ≡ lookup places other
  freed_others other ne [] = refl
  freed_others other ne (None ∷ places) = freed_others other ne places
  freed_others other ne (Some r ∷ places) =
      elim (same_key r.key k) as (λ b. same_key r.key k ≡ b → lookup (cond b None (Some r) ∷ without places k) other ≡ lookup (Some r ∷ places) other) [
        | true ↦ λ t.
            freed_others other ne places ∙ sym (cond-false (same_key r.key other) (Some r) _ (keys_apart r.key other (λ s. ne (sym s ∙ keys_agree r.key k t))))
        | false ↦ λ t. ap (cond (same_key r.key other) (Some r)) (freed_others other ne places)
      ] refl

  pub freed_law : (before after : List Place) → after ≡ without before k → ChangesOnly before after k None
  freed_law before after e = record {
    itself = λ same s. ap (λ l. lookup l same) e ∙ freed_itself same s before;
    others = λ other ne. ap (λ l. lookup l other) e ∙ freed_others other ne before;
  }

  module _ (change : Record → Record) (keeps : (r : Record) → key_bytes r.key ≡ key_bytes k → key_bytes (change r).key ≡ key_bytes k) where
    changed_itself : (same : Key) → key_bytes same ≡ key_bytes k → (places : List Place) → lookup (changed change places k) same ≡ option_map change (lookup places k)
    changed_itself same e [] = refl
    changed_itself same e (None ∷ places) = changed_itself same e places
    changed_itself same e (Some r ∷ places) =
        elim (same_key r.key k) as (λ b. same_key r.key k ≡ b → lookup (cond b (Some (change r)) (Some r) ∷ changed change places k) same ≡ option_map change (cond b (Some r) (lookup places k))) [
          | true ↦ λ t. cond-true (same_key (change r).key same) (Some (change r)) _ (keys_same (change r).key same (keeps r (keys_agree r.key k t) ∙ sym e))
          | false ↦ λ t.
              cond-false (same_key r.key same) (Some r) _ (keys_apart r.key same (λ s. both_ways _ t (keys_same r.key k (s ∙ e)))) ∙ changed_itself same e places
        ] refl

    changed_others : (other : Key) → key_bytes other ≢ key_bytes k → (places : List Place) → lookup (changed change places k) other ≡ lookup places other
    changed_others other ne [] = refl
    changed_others other ne (None ∷ places) = changed_others other ne places
    changed_others other ne (Some r ∷ places) =
        elim (same_key r.key k) as (λ b. same_key r.key k ≡ b → lookup (cond b (Some (change r)) (Some r) ∷ changed change places k) other ≡ lookup (Some r ∷ places) other) [
          | true ↦ λ t.
              cond-false (same_key (change r).key other) (Some (change r)) _ (keys_apart (change r).key other (λ s. ne (sym s ∙ keeps r (keys_agree r.key k t))))
              ∙ changed_others other ne places ∙ sym (cond-false (same_key r.key other) (Some r) _ (keys_apart r.key other (λ s. ne (sym s ∙ keys_agree r.key k t))))
          | false ↦ λ t. ap (cond (same_key r.key other) (Some r)) (changed_others other ne places)
        ] refl

    pub changed_law : (before after : List Place) → after ≡ changed change before k → ChangesOnly before after k (option_map change (lookup before k))
    changed_law before after e = record {
      itself = λ same s. ap (λ l. lookup l same) e ∙ changed_itself same s before;
      others = λ other ne. ap (λ l. lookup l other) e ∙ changed_others other ne before;
    }

-- The record at a place is changed

pub put_changed : (change : Record → Record) (places : List Place) (k : Key) (i : ℕ) → Some i ≡ place_of places k → (p : Place) → p ≡ option_map change (at places i)
    → Distinct places → set places i p ≡ changed change places k
put_changed change places k i e p is h = ap (set places i) is ∙ set_at_key (option_map change) places k h i (finds places k i e)

pub distinct_changed : (change : Record → Record) → ((r : Record) → key_bytes (change r).key ≡ key_bytes r.key) → (places : List Place) (k : Key) (i : ℕ) → Some i ≡ place_of places k
    → (p : Place) → p ≡ option_map change (at places i) → Distinct places → Distinct (set places i p)
distinct_changed change keeps places k i e p is h =
    let r = holder k (at places i) (finds places k i e) in
    subst (λ p. Distinct (set places i p)) (sym (is ∙ ap (option_map change) r.1))
    (distinct_same places i (change r.0) (holds (change r.0).key (at places i) r.0 r.1 (sym (keeps r.0))) h)

-- A record that is put in

-- there are no more records than places
held_within : (places : List Place) → length (held places) ≤ length places
held_within [] = omega arith
held_within (None ∷ places) = let h = held_within places in omega arith
held_within (Some s ∷ places) = let h = held_within places in omega arith

module _ (r : Record) where
  put_at : (places : List Place) (i : ℕ) → i < length places → is_none (at places i) ≡ true → ((j : ℕ) → j < i → is_none (at places j) ≡ false)
      → put_first_free places r ≡ Some (set places i (Some r))
  put_at [] i l h b = absurd (omega arith)
  put_at (None ∷ places) zero l h b = refl
  put_at (Some s ∷ places) zero l h b = absurd (both_ways false refl h)
  put_at (None ∷ places) (suc i) l h b = absurd (both_ways true (b 0 (omega arith)) refl)
  put_at (Some s ∷ places) (suc i) l h b = ap (option_map (λ after. Some s ∷ after)) (put_at places i (omega arith) h (λ j lt. b (suc j) (omega arith)))

  put_nowhere : (places : List Place) → ((j : ℕ) → j < length places → is_none (at places j) ≡ false) → (put_first_free places r ≡ None) × (length (held places) ≡ length places)
  put_nowhere [] b = (refl, refl)
  put_nowhere (None ∷ places) b = absurd (both_ways true (b 0 (omega arith)) refl)
  put_nowhere (Some s ∷ places) b =
      let h = put_nowhere places (λ j l. b (suc j) (omega arith)) in (ap (option_map (λ after. Some s ∷ after)) h.0, ap suc h.1)

  -- what holds of a record in front, and stays with each record more before it, holds of every put
  put_has : (P : List Place → List Place → Type 0) → ((places : List Place) → P (None ∷ places) (Some r ∷ places))
      → ((s : Record) (places after : List Place) → P places after → P (Some s ∷ places) (Some s ∷ after)) → (places after : List Place) → put_first_free places r ≡ Some after → P places after
  put_has P first more [] after e = cc
  put_has P first more (None ∷ places) after e = let same : (Some r ∷ places) ≡ after = cc in subst (P (None ∷ places)) same (first places)
  put_has P first more (Some s ∷ places) after e =
      elim (put_first_free places r) as (λ o. put_first_free places r ≡ o → option_map (λ l. Some s ∷ l) o ≡ Some after → P (Some s ∷ places) after) [
        | None ↦ λ t e. cc
        | Some l ↦ λ t e. let same : (Some s ∷ l) ≡ after = cc in subst (P (Some s ∷ places)) same (more s places l (put_has P first more places l t))
      ] refl e

  put_itself : (same : Key) → key_bytes same ≡ key_bytes r.key → (places after : List Place) → put_first_free places r ≡ Some after → lookup places same ≡ None → lookup after same ≡ Some r
  put_itself same e =
      put_has (λ places after. lookup places same ≡ None → lookup after same ≡ Some r) (λ places n. cond-true (same_key r.key same) (Some r) _ (keys_same r.key same (sym e)))
      (λ s places after h.
      elim (same_key s.key same) as (λ b. cond b (Some s) (lookup places same) ≡ None → cond b (Some s) (lookup after same) ≡ Some r) [ true ↦ λ n. cc | false ↦ h ])

  put_others : (other : Key) → key_bytes other ≢ key_bytes r.key → (places after : List Place) → put_first_free places r ≡ Some after → lookup after other ≡ lookup places other
  put_others other ne =
      put_has (λ places after. lookup after other ≡ lookup places other) (λ places. cond-false (same_key r.key other) (Some r) _ (keys_apart r.key other (λ s. ne (sym s))))
      (λ s places after h. ap (cond (same_key s.key other) (Some s)) h)

  -- a place was free
  put_more : (places after : List Place) → put_first_free places r ≡ Some after → length (held places) < length places
  put_more =
      put_has (λ places after. length (held places) < length places) (λ places. let h = held_within places in omega arith)
      (λ s places after h. omega arith)

-- where a record goes: to its key's place, or else to the first free one
chosen : (known free answer : Option ℕ) → answer ≡ option_or known free → ((i : ℕ) × (known ≡ Some i) × (answer ≡ Some i)) ⊎ ((known ≡ None) × (answer ≡ free))
chosen None free answer e = inr (refl, e)
chosen (Some i) free answer e = inl (i, refl, e)

module _ (r : Record) (places : List Place) where
  free_is : (i : ℕ) → Some i ≡ free_place places → (i < length places) × (put_first_free places r ≡ Some (set places i (Some r)))
  free_is i e =
      let first : IsFirst is_none places (Some i) = first_is is_none places (Some i) e in
      (first.0, put_at r places i first.0 (first.1 None) (λ j l. first.2 j None l))

  none_free : None ≡ free_place places → (put_first_free places r ≡ None) × (length (held places) ≡ length places)
  none_free e =
      let first : IsFirst is_none places None = first_is is_none places None e in
      put_nowhere r places (λ j l. first j None l)

  known_is : (i : ℕ) → Some i ≡ place_of places r.key → (s : Record) × (lookup places r.key ≡ Some s) × (at places i ≡ Some s)
  known_is i e = let s = holder r.key (at places i) (finds places r.key i e) in (s.0, lookup_at places r.key i e ∙ s.1, s.1)

  known_inserts : (s : Record) → lookup places r.key ≡ Some s → inserted places r ≡ Ok (changed (λ _. r) places r.key)
  known_inserts s e = ap (λ (o : Option Record). cond (is_some o) (Ok (changed (λ _. r) places r.key)) (ok_or (put_first_free places r) 6)) e

  unknown_inserts : lookup places r.key ≡ None → inserted places r ≡ ok_or (put_first_free places r) 6
  unknown_inserts e = ap (λ (o : Option Record). cond (is_some o) (Ok (changed (λ _. r) places r.key)) (ok_or (put_first_free places r) 6)) e

  pub insert_within : (i : ℕ) → Some i ≡ place_for places r.key → i < length places
  insert_within i e =
      ⊎_elim (λ (j, k, a). let same : i ≡ j = cc in found_within places r.key i (ap Some same ∙ sym k)) (λ (n, f). (free_is i f).0) (chosen (place_of places r.key) (free_place places) (Some i) e)

  pub insert_distinct : Distinct places → (i : ℕ) → Some i ≡ place_for places r.key → Distinct (set places i (Some r))
  insert_distinct h i e =
      ⊎_elim
      (λ (j, k, a). let same : i ≡ j = cc in distinct_same places i r (finds places r.key i (ap Some same ∙ sym k)) h)
      (λ (n, f). distinct_set places i (Some r) (free_is i f).0 (λ j ne. nowhere places r.key (sym n) j) h)
      (chosen (place_of places r.key) (free_place places) (Some i) e)

  pub insert_is : Distinct places → (i : ℕ) → Some i ≡ place_for places r.key → Ok (set places i (Some r)) ≡ inserted places r
  insert_is h i e =
      ⊎_elim
      (λ (j, k, a).
      let same : i ≡ j = cc in
      let known : Some i ≡ place_of places r.key = ap Some same ∙ sym k in
      let s = known_is i known in
      ap (λ p. Ok (set places i p)) (sym (ap (option_map (λ _. r)) s.2))
      ∙ ap Ok (set_at_key (option_map (λ _. r)) places r.key h i (finds places r.key i known)) ∙ sym (known_inserts s.0 s.1))
      (λ (n, f). sym (unknown_inserts (lookup_nowhere places r.key (sym n)) ∙ ap (λ o. ok_or o 6) (free_is i f).1))
      (chosen (place_of places r.key) (free_place places) (Some i) e)

  -- no place for a record: its key is unknown, and every place holds a record
  pub insert_nowhere : None ≡ place_for places r.key → (lookup places r.key ≡ None) × (length (held places) ≡ length places)
  insert_nowhere e =
      ⊎_elim (λ (j, k, a). cc) (λ (n, f). (lookup_nowhere places r.key (sym n), (none_free f).1)) (chosen (place_of places r.key) (free_place places) None e)

  pub insert_refused : None ≡ place_for places r.key → Err 6 ≡ inserted places r
  insert_refused e =
      ⊎_elim
      (λ (j, k, a). cc)
      (λ (n, f). sym (unknown_inserts (lookup_nowhere places r.key (sym n)) ∙ ap (λ o. ok_or o 6) (none_free f).0))
      (chosen (place_of places r.key) (free_place places) None e)

  -- a table that is full has no place for an unknown key
  pub insert_somewhere : (i : ℕ) → Some i ≡ place_for places r.key → IsNone (lookup places r.key) → length (held places) ≡ length places → ⊥
  insert_somewhere i e unknown full =
      ⊎_elim
      (λ (j, k, a). let s = known_is j (sym k) in both_ways _ unknown (ap is_some s.1))
      (λ (n, f). let l = (put_more r places (set places i (Some r)) (free_is i f).1) in omega (arith, l, full))
      (chosen (place_of places r.key) (free_place places) (Some i) e)

  pub insert_law : (after : List Place) → Ok after ≡ inserted places r → ChangesOnly places after r.key (Some r)
  insert_law after e =
      elim (lookup places r.key) as (λ o. lookup places r.key ≡ o → ChangesOnly places after r.key (Some r)) [
        | Some s ↦ λ t.
            let is : after ≡ changed (λ _. r) places r.key = let h : ◌≡◌ {A = Result (List Place) ℕ} (Ok after) (Ok (changed (λ _. r) places r.key)) = e ∙ known_inserts s t in cc in
            let law = changed_law r.key (λ _. r) (λ _ _. refl) places after is in
            record { itself = λ same b. law.itself same b ∙ ap (option_map (λ _. r)) t; others = law.others }
        | None ↦ λ t.
            elim (put_first_free places r) as (λ o. put_first_free places r ≡ o → ChangesOnly places after r.key (Some r)) [
              | None ↦ λ f. let h : ◌≡◌ {A = Result (List Place) ℕ} (Ok after) (Err 6) = e ∙ unknown_inserts t ∙ ap (λ o. ok_or o 6) f in cc
              | Some l ↦ λ f.
                  let h : ◌≡◌ {A = Result (List Place) ℕ} (Ok after) (Ok l) = e ∙ unknown_inserts t ∙ ap (λ o. ok_or o 6) f in
                  let same : l ≡ after = cc in
                  let put : put_first_free places r ≡ Some after = f ∙ ap Some same in
                  record {
                    itself = λ k b. put_itself r k b places after put (lookup_same k r.key b places ∙ t);
                    others = λ k ne. put_others r k ne places after put;
                  }
            ] refl
      ] refl
