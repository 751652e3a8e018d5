-- The mask of the names that lines name.
use Rattle.std.proofs.Common.{◌≡◌, ℕ, ◌<◌, ◌≤◌, true, ◌&&◌, eqb, ltb, ◌⊎◌, List, [], ◌∷◌, ◌++◌, length, Some, None, Ok, codes, Decides, Option, sym, refl, ap, ◌∙◌, inl, inr, ⊎_elim, arith}
use Rattle.std.specs.Str.{bytes_eq}
use Rattle.std.proofs.lemmas.Bool.{eqb-true, eq-eqb, lt-ltb, and_parts, and_from, or_cases, or_left, or_right}
use Rattle.slices.specs.declared.name.Name.{Name}
use Rattle.slices.specs.Names.{name_bytes}
use Rattle.slices.proofs.Searches.{first_is}
use Rattle.packetline.specs.Lines.{kind_of}
use Rattle.process.specs.Masks.{holds, with_bit, place_of}
use Rattle.handshake.specs.Judged.{capability_in}
use Rattle.handshake.specs.Handshakes.{at_place, with_name, mask_then, mask_after, NamedAt, AllDesired}
use Rattle.handshake.proofs.Prefixes.{named_spelt, spelt_named}
use Rattle.process.proofs.Masks.{holds_none, holds_with}

module _ (names : List Name) where
  -- a line names the k-th of the names
  abbrev pub NamesIt : ℕ → List ℕ → Type 0
  NamesIt k t = (s : List ℕ) × (t ≡ codes "capability=" ++ s) × (place_of names s ≡ Some k)

  pub named_none : (k : ℕ) → NamedAt names k [] → ⊥
  named_none k ([], (s, (after, e, p))) = let z : ◌≡◌ {A = ℕ} 0 1 = cc in omega arith
  named_none k (x ∷ before, (s, (after, e, p))) = let z : ◌≡◌ {A = ℕ} 0 1 = cc in omega arith

  pub named_here : (k : ℕ) (t : List ℕ) (ts : List (List ℕ)) → NamesIt k t → NamedAt names k (t ∷ ts)
  named_here k t ts (s, e, p) = ([], (s, (ts, ap (λ l. l ∷ ts) e, p)))

  pub named_later : (k : ℕ) (t : List ℕ) (ts : List (List ℕ)) → NamedAt names k ts → NamedAt names k (t ∷ ts)
  named_later k t ts (before, (s, (after, e, p))) = (t ∷ before, (s, (after, ap (λ l. t ∷ l) e, p)))

  pub named_cases : (k : ℕ) (t : List ℕ) (ts : List (List ℕ)) → NamedAt names k (t ∷ ts) → NamesIt k t ⊎ NamedAt names k ts
  named_cases k t ts ([], (s, (after, e, p))) = let h : t ≡ codes "capability=" ++ s = cc in inl (s, h, p)
  named_cases k t ts (x ∷ before, (s, (after, e, p))) = let h : ts ≡ before ++ (codes "capability=" ++ s) ∷ after = cc in inr (before, (s, (after, h, p)))

  -- a line names nothing else than desired names
  abbrev Desired : List ℕ → Type 0
  Desired t = (s : List ℕ) → t ≡ codes "capability=" ++ s → (k : ℕ) × (place_of names s ≡ Some k)

  desired_none : AllDesired names []
  desired_none [] s after e = let z : ◌≡◌ {A = ℕ} 0 1 = cc in absurd (omega arith)
  desired_none (x ∷ before) s after e = let z : ◌≡◌ {A = ℕ} 0 1 = cc in absurd (omega arith)

  desired_more : (t : List ℕ) (ts : List (List ℕ)) → Desired t → AllDesired names ts → AllDesired names (t ∷ ts)
  desired_more t ts d ds [] s after e = d s (cc)
  desired_more t ts d ds (x ∷ before) s after e = ds before s after (cc)

  -- bits of a mask that were set before, or that lines name
  abbrev Bits : ℕ → List (List ℕ) → ℕ → Type 0
  Bits m₀ ts m = (k : ℕ) → Decides (holds m k) ((holds m₀ k ≡ true) ⊎ NamedAt names k ts)

  abbrev Means : ℕ → List (List ℕ) → ℕ → Type 0
  Means m₀ ts m = AllDesired names ts × Bits m₀ ts m

  module _ (few : length names ≤ 32) (t : List ℕ) (ts : List (List ℕ)) (m₀ m : ℕ) (rest : (n : ℕ) → mask_then names (Ok n) ts ≡ Ok m → Means n ts m) where
    means_other : capability_in (kind_of t) ≡ None → mask_then names (Ok m₀) ts ≡ Ok m → Means m₀ (t ∷ ts) m
    means_other e h =
        let r = rest m₀ h in
        let never : (s : List ℕ) → t ≡ codes "capability=" ++ s → ⊥ = λ s q. (let w = spelt_named t s q in let z : ◌≡◌ {A = ℕ} 0 1 = cc in omega arith) in (
          desired_more t ts (λ s q. absurd (never s q)) r.0,
          λ k. (
            λ on. ⊎_elim (λ b. inl b) (λ n. inr (named_later k t ts n)) ((r.1 k).0 on),
            λ why. (r.1 k).1 (⊎_elim (λ b. inl b) (λ n. ⊎_elim (λ s. absurd (never s.0 s.1)) (λ l. inr l) (named_cases k t ts n)) why),
          ),
        )

    module _ (s : List ℕ) (i : ℕ) (e : capability_in (kind_of t) ≡ Some s) (at : place_of names s ≡ Some i) where
      is_it : (s' : List ℕ) → t ≡ codes "capability=" ++ s' → place_of names s' ≡ Some i
      is_it s' q = let w = spelt_named t s' q in let z : s' ≡ s = cc in ap (place_of names) z ∙ at

      small : i < 32
      small = let l = (first_is (λ n. bytes_eq (name_bytes n) s) names (Some i) (sym at)).0 in omega arith

      set_by : (k : ℕ) → holds (with_bit m₀ i) k ≡ true → (holds m₀ k ≡ true) ⊎ NamedAt names k (t ∷ ts)
      set_by k on =
          ⊎_elim
          (λ b. let z = eqb-true k i (and_parts (eqb k i) (ltb i 32) b).0 in inr (named_here k t ts (s, named_spelt t s e, at ∙ ap Some (sym z))))
          (λ b. inl b) (or_cases (eqb k i && ltb i 32) (holds m₀ k) (sym (holds_with m₀ i k) ∙ on))

      kept : (k : ℕ) → holds m₀ k ≡ true → holds (with_bit m₀ i) k ≡ true
      kept k b = holds_with m₀ i k ∙ or_right (eqb k i && ltb i 32) (holds m₀ k) b

      sets : (k : ℕ) → NamesIt k t → holds (with_bit m₀ i) k ≡ true
      sets k (s', q, p) =
          let w = is_it s' q in
          let z : k ≡ i = cc in
          holds_with m₀ i k ∙ or_left (eqb k i && ltb i 32) (holds m₀ k) (and_from (eqb k i) (ltb i 32) (eq-eqb k i z) (lt-ltb i 32 small))

      means_named : mask_then names (Ok (with_bit m₀ i)) ts ≡ Ok m → Means m₀ (t ∷ ts) m
      means_named h =
          let r = rest (with_bit m₀ i) h in (
            desired_more t ts (λ s' q. (i, is_it s' q)) r.0,
            λ k. (
              λ on. ⊎_elim (λ b. set_by k b) (λ n. inr (named_later k t ts n)) ((r.1 k).0 on),
              λ why. (r.1 k).1 (⊎_elim (λ b. inl (kept k b)) (λ n. ⊎_elim (λ l. inl (sets k l)) (λ l. inr l) (named_cases k t ts n)) why),
            ),
          )

    means_place : (s : List ℕ) → capability_in (kind_of t) ≡ Some s → (o : Option ℕ) → place_of names s ≡ o → mask_then names (at_place m₀ o) ts ≡ Ok m → Means m₀ (t ∷ ts) m
    means_place s e None at h = let z : ◌≡◌ {A = ℕ} 0 1 = cc in absurd (omega arith)
    means_place s e (Some i) at h = means_named s i e at h

    means_line : (o : Option (List ℕ)) → capability_in (kind_of t) ≡ o → mask_then names (with_name names m₀ o) ts ≡ Ok m → Means m₀ (t ∷ ts) m
    means_line None e h = means_other e h
    means_line (Some s) e h = means_place s e (place_of names s) refl h

  means : length names ≤ 32 → (ts : List (List ℕ)) (m₀ m : ℕ) → mask_then names (Ok m₀) ts ≡ Ok m → Means m₀ ts m
  means few [] m₀ m h =
      let z : m₀ ≡ m = cc in (
        desired_none,
        λ k. ((λ on. inl (ap (λ n. holds n k) z ∙ on)), (λ why. ⊎_elim (λ b. ap (λ n. holds n k) (sym z) ∙ b) (λ n. absurd (named_none k n)) why)),
      )
  means few (t ∷ ts) m₀ m h = means_line few t ts m₀ m (λ n. means few ts n m) (capability_in (kind_of t)) refl h

-- the mask of lines: no line names a capability that is not desired, and a bit is set exactly if some line names its name
pub mask_means : (names : List Name) (ts : List (List ℕ)) (m : ℕ) → length names ≤ 32 → mask_after names 0 ts ≡ Ok m
    → AllDesired names ts × ((k : ℕ) → Decides (holds m k) (NamedAt names k ts))
mask_means names ts m few h =
    let r = means names few ts 0 m h in
    (r.0, λ k. ((λ on. ⊎_elim (λ b. absurd (holds_none k b)) (λ n. n) ((r.1 k).0 on)), (λ n. (r.1 k).1 (inr n))))

-- and there is a mask where no line names a capability that is not desired
module _ (names : List Name) where
  goes_on : (t : List ℕ) (m : ℕ) (o : Option (List ℕ)) → capability_in (kind_of t) ≡ o → Desired names t → (n : ℕ) × (with_name names m o ≡ Ok n)
  goes_on t m None e d = (m, refl)
  goes_on t m (Some s) e d = let p = d s (named_spelt t s e) in (with_bit m p.0, ap (at_place m) p.1)

  pub desired_mask : (ts : List (List ℕ)) (m₀ : ℕ) → AllDesired names ts → (m : ℕ) × (mask_after names m₀ ts ≡ Ok m)
  desired_mask [] m₀ d = (m₀, refl)
  desired_mask (t ∷ ts) m₀ d =
      let on = goes_on t m₀ (capability_in (kind_of t)) refl (λ s e. d [] s ts (ap (λ l. l ∷ ts) e)) in
      let r = desired_mask ts on.0 (λ before s after e. d (t ∷ before) s after (ap (λ l. t ∷ l) e)) in
      (r.0, ap (λ x. mask_then names x ts) on.1 ∙ r.1)
