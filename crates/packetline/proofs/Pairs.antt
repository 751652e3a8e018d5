-- The law of a pair leaves one answer.
use Rattle.std.proofs.Common.{◌≡◌, ◌≢◌, ℕ, ◌+◌, ◌<◌, eqb, List, [], ◌∷◌, ◌++◌, length, get_or, take, drop, Some, None, Option, sym, refl, ap, ◌∙◌, arith, take-append-drop}
use Rattle.std.specs.Option.{option_map}
use Rattle.std.proofs.lemmas.List.{drop_more, length-take, get_or-take}
use Rattle.std.proofs.lemmas.List.Elements.{recursion_from_All}
use Rattle.std.proofs.lemmas.Bool.{cond-false, cond_both, eqb-true, eqb-false, ne_eqb}
use Rattle.slices.specs.First.{IsFirst}
use Rattle.packetline.specs.Metadata.{prepended, pair_of, Unequal, IsPair}

-- a byte that is not `=` belongs to the key
before : (b : ℕ) (bs : List ℕ) (r : Option (List ℕ × List ℕ)) → (b ≡ 61 → ⊥) → r ≡ pair_of bs → option_map (prepended b) r ≡ pair_of (b ∷ bs)
before b bs r n e = ap (option_map (prepended b)) e ∙ sym (cond-false (eqb b 61) _ _ (ne_eqb b 61 n))

none_is : (bs : List ℕ) → Unequal bs → None ≡ pair_of bs
none_is [] h = refl
none_is (b ∷ bs) h = before b bs None h.0 (none_is bs h.1)

some_is : (k v : List ℕ) → Unequal k → Some (k, v) ≡ pair_of (k ++ 61 ∷ v)
some_is [] v h = refl
some_is (b ∷ k) v h = before b (k ++ 61 ∷ v) (Some (k, v)) h.0 (some_is k v h.1)

pub pair_is : (bs : List ℕ) (r : Option (List ℕ × List ℕ)) → IsPair bs r → r ≡ pair_of bs
pair_is bs None h = none_is bs h
pair_is bs (Some p) h = some_is p.0 p.1 h.1 ∙ sym (ap pair_of h.0)

-- a line at the first `=`, if there is one
pub pair_at : (bs : List ℕ) (r : Option ℕ) → IsFirst (λ b. eqb b 61) bs r → IsPair bs (option_map (λ i. (take i bs, drop (i + 1) bs)) r)
pair_at bs None h = recursion_from_All (λ b. b ≢ 61) bs (λ k d l. eqb-false _ 61 (h k d l))
pair_at bs (Some i) h =
    let before : (k : ℕ) (d : ℕ) → k < length (take i bs) → get_or (take i bs) k d ≢ 61 = λ k d l.
    let inside : k < i = omega (arith, length-take i bs) in rw (get_or-take i bs k d inside) (eqb-false _ 61 (h.2 k d inside)) in (
      sym (take-append-drop i bs) ∙ ap (λ (x : List ℕ). take i bs ++ x) (drop_more bs i 0 h.0 ∙ ap (λ (b : ℕ). b ∷ drop (i + 1) bs) (eqb-true _ 61 (h.1 0))),
      recursion_from_All (λ b. b ≢ 61) (take i bs) before,
    )

-- a line is the pair that it has, or has none
law_more : (b : ℕ) (bs : List ℕ) (r : Option (List ℕ × List ℕ)) → (b ≡ 61 → ⊥) → IsPair bs r → IsPair (b ∷ bs) (option_map (prepended b) r)
law_more b bs None n h = (n, h)
law_more b bs (Some p) n h = (ap (λ xs. b ∷ xs) h.0, (n, h.1))

pub pair_law : (bs : List ℕ) → IsPair bs (pair_of bs)
pair_law [] = tt
pair_law (b ∷ bs) =
    cond_both (eqb b 61) _ _ (IsPair (b ∷ bs)) (λ e. (ap (λ (x : ℕ). x ∷ bs) (eqb-true b 61 e), tt)) (λ e. law_more b bs (pair_of bs) (eqb-false b 61 e) (pair_law bs))
