-- Which place, and which record, a key finds.
use Rattle.std.specs.Prelude.{◌==◌}
use Rattle.std.proofs.Common.{◌≡◌, ◌≢◌, ℕ, zero, suc, ◌<◌, Bool, true, false, cond, List, [], ◌∷◌, length, get_or, Some, None, Option, sym, subst, refl, ap, ◌∙◌, ⊎_elim, arith, IsSome, IsNone, ◌&&◌}
use Rattle.std.specs.List.{All, Contains, find}
use Rattle.std.proofs.lemmas.Bool.{both_ways, cases_Bool, cases_order, cases_lt, cond-true, cond-false}
use Rattle.std.proofs.lemmas.Grind.{common_steps}
use Rattle.std.proofs.lemmas.List.{get_or_past}
use Rattle.std.proofs.lemmas.List.Elements.{All-nil, All-cons, All-weaker}
use Rattle.std.proofs.lemmas.Slice.Eq.{bytes_eq-Decides}
use Rattle.slices.specs.First.{IsFirst}
use Rattle.slices.proofs.Searches.{first_is}
use Rattle.records.specs.declared.key.Key.{Key}
use Rattle.records.specs.declared.record.Record.{Record}
use Rattle.records.specs.Keys.{key_bytes, same_key}
use Rattle.records.specs.Places.{Place, holds_key, clash, Distinct, place_of, HasAt, IsPlaceOf}
use Rattle.records.specs.Records.{held, lookup, IsRecordOf, is_reading, reading_by, IsReadingBy}

abbrev pub at : List Place → ℕ → Place
at places i = get_or places i None

pub keys_agree : (a b : Key) → same_key a b ≡ true → key_bytes a ≡ key_bytes b
keys_agree a b = (bytes_eq-Decides (key_bytes a) (key_bytes b)).0

pub keys_same : (a b : Key) → key_bytes a ≡ key_bytes b → same_key a b ≡ true
keys_same a b = (bytes_eq-Decides (key_bytes a) (key_bytes b)).1

-- keys that differ are not the same
pub keys_apart : (a b : Key) → key_bytes a ≢ key_bytes b → same_key a b ≡ false
keys_apart a b h = ⊎_elim (λ e. absurd (h (keys_agree a b e))) (λ e. e) (cases_Bool (same_key a b))

-- a place that holds the record with a key
pub holder : (k : Key) (p : Place) → holds_key k p ≡ true → (r : Record) × (p ≡ Some r) × (key_bytes r.key ≡ key_bytes k)
holder k None h = absurd (both_ways false refl h)
holder k (Some r) h = (r, refl, keys_agree r.key k h)

pub holds : (k : Key) (p : Place) (r : Record) → p ≡ Some r → key_bytes r.key ≡ key_bytes k → holds_key k p ≡ true
holds k p r e same = subst (λ p. holds_key k p ≡ true) (sym e) (keys_same r.key k same)

-- two places that hold the record with a key clash
clash_of : (k : Key) (p q : Place) → holds_key k p ≡ true → holds_key k q ≡ true → clash p q ≡ true
clash_of k None q h g = absurd (both_ways false refl h)
clash_of k (Some r) None h g = absurd (both_ways false refl g)
clash_of k (Some r) (Some s) h g = keys_same r.key s.key (keys_agree r.key k h ∙ sym (keys_agree s.key k g))

module _ (places : List Place) (distinct : Distinct places) where
  pub same_place : (k : Key) (i j : ℕ) → holds_key k (at places i) ≡ true → holds_key k (at places j) ≡ true → i ≡ j
  same_place k i j h g =
      ⊎_elim (λ e. e)
      (λ o. ⊎_elim (λ (l : i < j). absurd (both_ways _ (distinct i j l) (clash_of k _ _ h g)))
      (λ (l : j < i). absurd (both_ways _ (distinct j i l) (clash_of k _ _ g h))) o)
      (cases_order i j)

  pub elsewhere : (k : Key) (i j : ℕ) → holds_key k (at places i) ≡ true → j ≢ i → holds_key k (at places j) ≡ false
  elsewhere k i j h ne = ⊎_elim (λ e. absurd (ne (same_place k j i e h))) (λ e. e) (cases_Bool (holds_key k (at places j)))

-- a place that holds a record is there
pub inside : (places : List Place) (i : ℕ) (r : Record) → at places i ≡ Some r → i < length places
inside places i r e = ⊎_elim (λ l. l) (λ l. let n : ◌≡◌ {A = Place} None (Some r) = sym (get_or_past places i None l) ∙ e in cc) (cases_lt i (length places))

-- the answer of a search for a key, in words
pub place_is : (places : List Place) → Distinct places → (k : Key) (answer : Option ℕ) → answer ≡ place_of places k → IsPlaceOf places k answer
place_is places distinct k None e i =
    let first : IsFirst (holds_key k) places None = first_is (holds_key k) places None e in
    (λ h. cc, λ (r, e, same). absurd (both_ways _ (first i None (inside places i r e)) (holds k _ r e same)))
place_is places distinct k (Some j) e i =
    let first : IsFirst (holds_key k) places (Some j) = first_is (holds_key k) places (Some j) e in (
      λ h. let same : j ≡ i = cc in subst (λ n. HasAt places n k) same (holder k (at places j) (first.1 None)),
      λ (r, e, same). ap Some (same_place places distinct k j i (first.1 None) (holds k _ r e same)),
    )

-- the record that a key finds stands at the key's place
lookup_first : (k : Key) (places : List Place) (i : ℕ)
    → holds_key k (at places i) ≡ true → ((j : ℕ) → j < i → holds_key k (at places j) ≡ false) → lookup places k ≡ at places i
lookup_first k [] i h b = absurd (both_ways false refl h)
lookup_first k (None ∷ places) zero h b = absurd (both_ways false refl h)
lookup_first k (Some r ∷ places) zero h b = cond-true (same_key r.key k) (Some r) _ h
lookup_first k (None ∷ places) (suc i) h b = lookup_first k places i h (λ j l. b (suc j) (omega arith))
lookup_first k (Some r ∷ places) (suc i) h b =
    cond-false (same_key r.key k) (Some r) _ (b 0 (omega arith)) ∙ lookup_first k places i h (λ j l. b (suc j) (omega arith))

lookup_none : (k : Key) (places : List Place) → ((j : ℕ) → j < length places → holds_key k (at places j) ≡ false) → lookup places k ≡ None
lookup_none k [] b = refl
lookup_none k (None ∷ places) b = lookup_none k places (λ j l. b (suc j) (omega arith))
lookup_none k (Some r ∷ places) b =
    cond-false (same_key r.key k) (Some r) _ (b 0 (omega arith)) ∙ lookup_none k places (λ j l. b (suc j) (omega arith))

pub lookup_at : (places : List Place) (k : Key) (i : ℕ) → Some i ≡ place_of places k → lookup places k ≡ at places i
lookup_at places k i e =
    let first : IsFirst (holds_key k) places (Some i) = first_is (holds_key k) places (Some i) e in
    lookup_first k places i (first.1 None) (λ j l. first.2 j None l)

pub lookup_nowhere : (places : List Place) (k : Key) → None ≡ place_of places k → lookup places k ≡ None
lookup_nowhere places k e =
    let first : IsFirst (holds_key k) places None = first_is (holds_key k) places None e in
    lookup_none k places (λ j l. first j None l)

-- what a search finds is there and passes
pub find_has : {X : Type 0} (p : X → Bool) (xs : List X) (x : X) → find p xs ≡ Some x → Contains xs x × (p x ≡ true)
find_has p [] x e = absurd (let n : ◌≡◌ {A = ℕ} 0 1 = cc in omega arith)
find_has p (y ∷ xs) x e =
    elim (p y) as (λ b. p y ≡ b → cond b (Some y) (find p xs) ≡ Some x → Contains (y ∷ xs) x × (p x ≡ true)) [
      | true ↦ λ t e. let same : y ≡ x = cc in ((0, omega arith, same), subst (λ x. p x ≡ true) same t)
      | false ↦ λ t e. let h = find_has p xs x e in ((suc h.0.0, (let l = h.0.1 in omega arith), h.0.2), h.1)
    ] refl e

-- a held record has a place
held_at : (places : List Place) (r : Record) (n : ℕ) → n < length (held places) → get_or (held places) n r ≡ r → (i : ℕ) × (at places i ≡ Some r)
held_at [] r n l e = absurd (omega arith)
held_at (None ∷ places) r n l e = let h = held_at places r n l e in (suc h.0, h.1)
held_at (Some s ∷ places) r zero l e = (0, ap Some e)
held_at (Some s ∷ places) r (suc n) l e = let h = held_at places r n (omega arith) e in (suc h.0, h.1)

pub record_is : (places : List Place) → Distinct places → (k : Key) (answer : Option Record) → answer ≡ lookup places k → IsRecordOf places k answer
record_is places distinct k answer e r = (
  λ h. let f = find_has (λ r. same_key r.key k) (held places) r (sym e ∙ h) in (f.0, keys_agree r.key k f.1),
  λ (c, same). let h = held_at places r c.0 c.1 c.2 in
      e ∙ lookup_first k places h.0 (holds k _ r h.1 same) (λ j l. elsewhere places distinct k h.0 j (holds k _ r h.1 same) (omega arith)) ∙ h.1,
)

-- what a search finds none of fails everywhere
find_none : {X : Type 0} (p : X → Bool) (xs : List X) → find p xs ≡ None → All (λ x. p x ≡ false) xs
find_none p [] e = All-nil _
find_none p (y ∷ xs) e =
    elim (p y) as (λ b. p y ≡ b → cond b (Some y) (find p xs) ≡ None → All (λ x. p x ≡ false) (y ∷ xs)) [
      | true ↦ λ t e. cc
      | false ↦ λ t e. All-cons (λ x. p x ≡ false) y xs t (find_none p xs e)
    ] refl e

-- a record that is reading, with a process number
wanted_is : (n : ℕ) (r : Record) → (r.process == n && is_reading r) ≡ true → (r.process ≡ n) × IsSome r.reading
wanted_is n r h = grind (arith, common_steps, h)

unwanted_is : (n : ℕ) (r : Record) → (r.process == n && is_reading r) ≡ false → r.process ≡ n → IsNone r.reading
unwanted_is n r h e = grind (arith, common_steps, h, e)

pub reading_is : (places : List Place) (n : ℕ) (answer : Option Record) → answer ≡ reading_by places n → IsReadingBy places n answer
reading_is places n None e = record {
  is_one = tt;
  none = λ _. All-weaker _ _ (unwanted_is n) (held places) (find_none _ (held places) (sym e));
}
reading_is places n (Some r) e =
    let h = find_has (λ r. r.process == n && is_reading r) (held places) r (sym e) in
    let w = wanted_is n r h.1 in
    record { is_one = (h.0, w.0, w.1); none = λ f. cc }
