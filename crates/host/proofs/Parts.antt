-- Content in parts.
use Rattle.std.proofs.Common.{◌≡◌, ℕ, zero, suc, ◌+◌, ◌<◌, ◌≤◌, min, true, List, [], ◌∷◌, ◌++◌, map, length, take, drop, sym, refl, ap, ◌∙◌, ⊎_elim, arith, take-append-drop, append-nil, length-append}
use Rattle.std.proofs.lemmas.List.{take_all, drop_all, take_at, drop_at, length-drop, length-take}
use Rattle.std.proofs.lemmas.Bool.{cases_lt, le-leb, and_from}
use Rattle.packetline.specs.Packets.{line, all_sendable}
use Rattle.host.specs.Parts.{parts, parts_in, joined, Parted}

-- the bound on the number of parts does not matter
parts_enough : (k m : ℕ) (c : List ℕ) → length c ≤ k → length c ≤ m → parts_in k c ≡ parts_in m c
parts_enough zero zero c h l = refl
parts_enough zero (suc m) [] h l = refl
parts_enough zero (suc m) (b ∷ c) h l = absurd (omega arith)
parts_enough (suc k) zero [] h l = refl
parts_enough (suc k) zero (b ∷ c) h l = absurd (omega arith)
parts_enough (suc k) (suc m) [] h l = refl
parts_enough (suc k) (suc m) (b ∷ c) h l =
    ap (λ ps. take 65516 (b ∷ c) ∷ ps) (parts_enough k m (drop 65516 (b ∷ c)) (simp length-drop (omega arith)) (simp length-drop (omega arith)))

parts_more : (c : List ℕ) → 0 < length c → parts c ≡ take 65516 c ∷ parts (drop 65516 c)
unfolding parts
parts_more [] h = absurd (omega arith)
parts_more (b ∷ c) h =
    ap (λ ps. take 65516 (b ∷ c) ∷ ps)
    (parts_enough (length c) (length (drop 65516 (b ∷ c))) (drop 65516 (b ∷ c)) (simp length-drop (omega arith)) (omega arith))

pub parts_none : (c : List ℕ) → c ≡ [] → map line (parts c) ≡ []
unfolding parts
parts_none c e = ap (λ x. map line (parts_in (length x) x)) e

-- the packets of what is left of a content, of which the next part is x
pub parts_next : (c x y : List ℕ) → c ≡ x ++ y → length x ≡ min 65516 (length c) → 0 < length c → map line (parts c) ≡ line x ∷ map line (parts y)
parts_next c x y is long some =
    ap (map line) (parts_more c some) ∙ ap (λ b. line b ∷ map line (parts (drop 65516 c))) front ∙ ap (λ r. line x ∷ map line (parts r)) back
  where
    whole : length c ≡ length x + length y
    whole = ap length is ∙ length-append x y

    front : take 65516 c ≡ x
    front =
        ⊎_elim
        (λ (h : length c < 65516). take_all 65516 c (omega (arith, whole)) ∙ is ∙ ap (λ r. x ++ r) (drop_all 0 y (omega (arith, whole))) ∙ append-nil x)
        (λ (h : 65516 ≤ length c). ap (take 65516) is ∙ take_at x y 65516 (omega (arith, whole)))
        (cases_lt (length c) 65516)

    back : drop 65516 c ≡ y
    back =
        ⊎_elim
        (λ (h : length c < 65516). drop_all 65516 c (omega (arith, whole)) ∙ sym (drop_all 0 y (omega (arith, whole))))
        (λ (h : 65516 ≤ length c). ap (drop 65516) is ∙ drop_at x y 65516 (omega (arith, whole)))
        (cases_lt (length c) 65516)

parted_in : (k : ℕ) (c : List ℕ) → length c ≤ k → (joined (parts_in k c) ≡ c) × (all_sendable (map line (parts_in k c)) ≡ true)
parted_in zero [] h = (refl, refl)
parted_in zero (b ∷ c) h = absurd (omega arith)
parted_in (suc k) [] h = (refl, refl)
parted_in (suc k) (b ∷ c) h =
    let i = parted_in k (drop 65516 (b ∷ c)) (simp length-drop (omega arith)) in
    let some : 1 ≤ length (take 65516 (b ∷ c)) = simp length-take (omega arith) in
    let few : length (take 65516 (b ∷ c)) ≤ 65516 = simp length-take (omega arith) in (
      ap (λ xs. take 65516 (b ∷ c) ++ xs) i.0 ∙ take-append-drop 65516 (b ∷ c),
      and_from _ _ (and_from _ _ (le-leb 1 _ some) (le-leb _ 65516 few)) i.1,
    )

pub parted : (c : List ℕ) → Parted c
unfolding parts
parted c = parted_in (length c) c (omega arith)
