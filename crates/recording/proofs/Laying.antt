-- Bytes laid behind those that lie over the front of an area.
use Rattle.std.proofs.Common.{◌≡◌, ℕ, ◌-◌, ◌≤◌, List, [], ◌++◌, length, take, drop, sym, ap, ◌∙◌, append_assoc, append-nil, arith, length-append}
use borrow.Rule.Slice.PartMut.{put_mid}
use Rattle.std.proofs.lemmas.List.{take_at, drop_at, drop-drop, drop_all, length-drop, take_rest}
use Rattle.std.proofs.lemmas.Bool.Decides.{nat_tests}
use Rattle.packetline.specs.Packets.{over}
use Rattle.recording.specs.Shown.{shown}

pub front_of_over : (xs area a : List ℕ) (n : ℕ) → a ≡ over xs area → n ≡ length xs → take n a ≡ xs
front_of_over xs area a n e h = ap (take n) e ∙ take_at xs (drop (length xs) area) n (sym h)

-- ys laid behind xs
pub over_more : (xs ys area a b : List ℕ) (n : ℕ) → a ≡ over xs area → n ≡ length xs → b ≡ over ys (take (length a - n) (drop n a))
    → put_mid n (length a - n) a b ≡ over (xs ++ ys) area
over_more xs ys area a b n e h l =
    let back : drop n a ≡ drop (length xs) area = ap (drop n) e ∙ drop_at xs (drop (length xs) area) n (sym h) in
    let none : drop (length a - n) (drop n a) ≡ [] = drop_all (length a - n) (drop n a) (omega (arith, length-drop n a)) in
    let behind = l ∙ ap (over ys) (take_rest a n ∙ back) ∙ ap (λ zs. ys ++ zs) (drop-drop (length ys) (length xs) area ∙ ap (λ i. drop i area) (sym (length-append xs ys))) in
    ap (λ zs. zs ++ (b ++ drop (length a - n) (drop n a))) (front_of_over xs area a n e h) ∙ ap (λ zs. xs ++ (b ++ zs)) none
    ∙ ap (λ zs. xs ++ zs) (append-nil b ∙ behind) ∙ sym (append_assoc xs ys _)

pub shown_small : (b : ℕ) → length (shown b) ≤ 4
shown_small b = grind (arith, nat_tests)
