-- Bytes laid behind those that lie over the front of an area.
use Rattle.std.proofs.Common.{◌≡◌, ℕ, ◌+◌, ◌-◌, ◌<◌, ◌≤◌, true, leb, List, [], ◌∷◌, ◌++◌, length, get_or, drop, set, sym, refl, ap, ◌∙◌, append_assoc, arith, length-append}
use borrow.Rule.Slice.PartMut.{put_mid}
use Rattle.std.proofs.lemmas.List.{take_at, drop_at, drop-drop, drop_more, set_at}
use Rattle.std.proofs.lemmas.Bool.{le-leb, and_from}
use Rattle.packetline.specs.Packets.{digits, sendable, packet, line_pkt, over}

module _ (xs area : List ℕ) (n : ℕ) (e : length xs ≡ n) where
  -- a part
  pub over_part : (k : ℕ) (ys : List ℕ) → length ys ≡ k → put_mid n k (over xs area) ys ≡ over (xs ++ ys) area
  over_part k ys h =
      let l : length xs + k ≡ length (xs ++ ys) = omega (arith, length-append xs ys) in
      let front = take_at xs (drop (length xs) area) n e in
      let back = ap (drop k) (drop_at xs (drop (length xs) area) n e) ∙ drop-drop k (length xs) area ∙ ap (λ i. drop i area) l in
      ap (λ zs. zs ++ (ys ++ drop k (drop n (over xs area)))) front ∙ ap (λ zs. xs ++ (ys ++ zs)) back ∙ sym (append_assoc xs ys _)

  -- one byte
  over_byte : (y : ℕ) → n < length area → set (over xs area) n y ≡ over (xs ++ y ∷ []) area
  over_byte y h =
      let l : length xs + 1 ≡ length (xs ++ y ∷ []) = omega (arith, length-append xs (y ∷ [])) in
      let next = drop_more area (length xs) 0 (omega arith) in
      ap (λ zs. set (xs ++ zs) n y) next ∙ set_at xs (get_or area (length xs) 0) (drop (length xs + 1) area) y n e
      ∙ ap (λ i. xs ++ y ∷ drop i area) l ∙ sym (append_assoc xs (y ∷ []) _)

-- a line in two parts with a byte between them
module _ (left : List ℕ) (s : ℕ) (right : List ℕ) where
  abbrev middle : ℕ
  middle = length left + 4

  abbrev end : ℕ
  end = middle + 1 + length right

  pub pair_long : end ≡ length (packet (line_pkt (left ++ s ∷ right)))
  pair_long = omega (arith, length-append left (s ∷ right))

  pub pair_sendable : length left + length right + 1 ≤ 65516 → sendable (line_pkt (left ++ s ∷ right)) ≡ true
  pair_sendable h =
      let l : length (left ++ s ∷ right) ≡ length left + length right + 1 = omega (arith, length-append left (s ∷ right)) in
      and_from (leb 1 (length (left ++ s ∷ right))) (leb (length (left ++ s ∷ right)) 65516) (le-leb _ _ (omega arith)) (le-leb _ _ (omega arith))

  -- the digits, a part, a byte and a part are its packet
  pub pair_laid : (area a ls rs : List ℕ) → middle < length area → a ≡ over (digits end) area → ls ≡ left → rs ≡ right
      → put_mid (middle + 1) (end - (middle + 1)) (set (put_mid 4 (middle - 4) a ls) middle s) rs ≡ over (packet (line_pkt (left ++ s ∷ right))) area
  pair_laid area a ls rs room head is-left is_right =
      let d = digits end in
      let k = middle - 4 in
      let j = end - (middle + 1) in
      let e₂ : length (d ++ left) ≡ middle = omega (arith, length-append d left) in
      let e₃ : length ((d ++ left) ++ s ∷ []) ≡ middle + 1 = omega (arith, e₂, length-append (d ++ left) (s ∷ [])) in
      let first : put_mid 4 k a ls ≡ over (d ++ left) area = cc (over_part d area 4 refl k left (omega arith)) in
      let second : set (put_mid 4 k a ls) middle s ≡ over ((d ++ left) ++ s ∷ []) area = ap (λ b. set b middle s) first ∙ over_byte (d ++ left) area middle e₂ s room in
      let third = over_part ((d ++ left) ++ s ∷ []) area (middle + 1) e₃ j right (omega arith) in
      let whole : ((d ++ left) ++ s ∷ []) ++ right ≡ d ++ (left ++ s ∷ right) = append_assoc (d ++ left) (s ∷ []) right ∙ append_assoc d left (s ∷ right) in
      let long : end ≡ length (left ++ s ∷ right) + 4 = omega (arith, pair_long) in
      ap (λ b. put_mid (middle + 1) j b rs) second ∙ ap (put_mid (middle + 1) j (over ((d ++ left) ++ s ∷ []) area)) is_right ∙ third
      ∙ ap (λ b. over b area) whole ∙ ap (λ t. over (digits t ++ (left ++ s ∷ right)) area) long
