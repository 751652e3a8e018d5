-- Bytes less one LF at their end.
use Rattle.std.proofs.Common.{◌≡◌, ℕ, suc, ◌+◌, ◌-◌, eqb, true, false, List, [], ◌∷◌, ◌++◌, length, take, drop, Some, None, Option, Bor, sym, refl, ap, ◌∙◌, arith, take-append-drop}
use Rattle.std.specs.Option.{MatchOption, unwrap_or}
use Rattle.std.specs.Str.{bytes_eq}
use Rattle.std.proofs.lemmas.Slice.Eq.{bytes_eq-Decides}
use Rattle.std.proofs.lemmas.Bool.{ne_eqb, cond-false, both_ways}
use Rattle.client.specs.Paths.{less_lf}

less_end : (t : List ℕ) → less_lf (t ++ 10 ∷ []) ≡ t
less_end [] = refl
less_end (b ∷ []) = refl
less_end (b ∷ c ∷ t) = ap (λ l. b ∷ l) (less_end (c ∷ t))

no_lf : (bs : List ℕ) → (drop (length bs - 1) bs ≡ 10 ∷ [] → ⊥) → bs ≡ less_lf bs
no_lf [] h = refl
no_lf (b ∷ []) h = sym (cond-false (eqb b 10) [] (b ∷ []) (ne_eqb b 10 (λ e. h (ap (λ (x : ℕ). x ∷ []) e))))
no_lf (b ∷ c ∷ bs) h =
    let z : length (b ∷ c ∷ bs) - 1 ≡ suc (length (c ∷ bs) - 1) = omega arith in
    ap (λ l. b ∷ l) (no_lf (c ∷ bs) (λ e. h (ap (λ n. drop n (b ∷ c ∷ bs)) z ∙ e)))

-- bytes without their suffix of one LF, or as they are where they have none
pub lf_stripped : (bs : Bor (List ℕ)) (r : Option (Bor (List ℕ)))
    → MatchOption r (bytes_eq (drop (length bs.now - 1) bs.now) (10 ∷ []) ≡ false)
    (λ x. (bytes_eq (drop (length bs.now - 1) bs.now) (10 ∷ []) ≡ true) × (x.now ≡ take (length bs.now - 1) bs.now) × (length x.now + 1 ≡ length bs.now))
    → (unwrap_or r bs).now ≡ less_lf bs.now
lf_stripped bs None h = no_lf bs.now (λ e. both_ways _ h ((bytes_eq-Decides (drop (length bs.now - 1) bs.now) (10 ∷ [])).1 e))
lf_stripped bs (Some x) h =
    let n = length bs.now - 1 in
    let e = (bytes_eq-Decides (drop n bs.now) (10 ∷ [])).0 h.0 in
    h.1 ∙ sym (less_end (take n bs.now)) ∙ ap less_lf (ap (λ d. take n bs.now ++ d) (sym e) ∙ take-append-drop n bs.now)
