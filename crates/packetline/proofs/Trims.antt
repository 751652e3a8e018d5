-- White space at a side of a line.
use Rattle.std.proofs.Common.{◌≡◌, ℕ, zero, suc, ◌+◌, ◌-◌, ◌<◌, ◌≤◌, Bool, true, false, eqb, List, [], ◌∷◌, ◌++◌, length, take, drop, Ok, IsUtf8, Decides, sym, refl, ap, ◌∙◌, subst, ⊎_elim, arith, length-append, length-drop, take-append-drop}
use lib.Utf8.{encode, encodes}
use Rattle.std.specs.Char.{len_utf8, is_whitespace, is_not_whitespace}
use Rattle.std.specs.Str.{NonePass, NoCharPasses, chars}
use Rattle.std.proofs.lemmas.List.{append-nil, append_assoc, nil_from_length, take_at, drop_at, take-take, take-append-le, drop-append-le, length-take-le}
use Rattle.std.proofs.lemmas.Bool.{cond-true, cond-false, not-false, not_from_true, and_parts, and_from, cases_lt, both_ways, eqb-true, eq-eqb}
use Rattle.std.proofs.lemmas.Str.{encodes-append, chars-append, chars_from_encodes, encodes-chars, IsUtf8-drop, IsCharBoundary-from_take, length-encode, len_utf8_bounds, NoCharPasses-append}
use Rattle.std.proofs.lemmas.Bool.Decides.{same_from_decides, nat_tests}
use Rattle.packetline.specs.declared.metadata.Side.{Side}
use Rattle.packetline.specs.declared.metadata.Side.TheVariants.{Front, Back}
use Rattle.packetline.specs.Text.{utf8, trim_end, text_of, LessEnd}
use Rattle.packetline.specs.Metadata.{whites, blank, most, put, part, rest, trim_at, Padded, Bare}
use Rattle.packetline.proofs.Texts.{utf8_decides, white_scalars, all_white, utf8_before, not_so}

-- the test tells white space
whites_fail : (cs : List ℕ) → whites cs ≡ true → NonePass is_not_whitespace cs
whites_fail [] e = tt
whites_fail (c ∷ cs) e = let p = and_parts _ _ e in (not_from_true (is_whitespace c) p.0, whites_fail cs p.1)

fails_white : (cs : List ℕ) → NonePass is_not_whitespace cs → whites cs ≡ true
fails_white [] h = refl
fails_white (c ∷ cs) h = and_from _ _ (not-false (is_whitespace c) h.0) (fails_white cs h.1)

without_utf8 : (bs : List ℕ) → NoCharPasses is_not_whitespace bs → IsUtf8 bs
without_utf8 bs w = (w.0, (white_scalars w.0 w.2, w.1))

without_decodes : (bs : List ℕ) → NoCharPasses is_not_whitespace bs → NonePass is_not_whitespace (chars bs)
without_decodes bs w = subst (NonePass is_not_whitespace) (chars_from_encodes w.0 bs (without_utf8 bs w) w.1) w.2

blank_decides : (bs : List ℕ) → Decides (blank bs) (NoCharPasses is_not_whitespace bs)
unfolding blank
blank_decides bs = (
  λ e. let p = and_parts _ _ e in (chars bs, encodes-chars bs ((utf8_decides bs).0 p.0), whites_fail (chars bs) p.1),
  λ w. and_from _ _ ((utf8_decides bs).1 (without_utf8 bs w)) (fails_white (chars bs) (without_decodes bs w)),
)

-- bytes are white space just where their text is empty
pub empty_is : (bs t : List ℕ) → IsUtf8 bs → LessEnd bs t → Ok t ≡ text_of bs → eqb (length t) 0 ≡ blank bs
unfolding trim_end
empty_is bs t u h v =
    same_from_decides _ _ (
      λ e. subst (NoCharPasses is_not_whitespace) (sym (h.whole ∙ ap (λ (x : List ℕ). x ++ h.back) (nil_from_length t (eqb-true _ _ e)))) h.blank,
      λ w. let e : text_of bs ≡ Ok (trim_end bs) = cond-true (utf8 bs) _ _ ((utf8_decides bs).1 u) in
          let s : t ≡ trim_end bs = cc in
          eq-eqb _ _ (ap length (s ∙ ap encodes (all_white (chars bs) (without_decodes bs w)))),
    )
    (blank_decides bs)

pub no_text_blank : (bs : List ℕ) → (IsUtf8 bs → ⊥) → false ≡ blank bs
no_text_blank bs n = sym (not_so (blank bs) (blank_decides bs) (λ w. n (without_utf8 bs w)))

-- what is put at a side is the part there
part_put : (s : Side) (xs ys : List ℕ) → part s (length xs) (put s xs ys) ≡ xs
part_put Front xs ys = take_at xs ys _ refl
part_put Back xs ys = drop_at ys xs _ (simp length-append (omega arith))

rest_put : (s : Side) (xs ys : List ℕ) → rest s (length xs) (put s xs ys) ≡ ys
rest_put Front xs ys = drop_at xs ys _ refl
rest_put Back xs ys = take_at ys xs _ (simp length-append (omega arith))

put_part : (s : Side) (n : ℕ) (bs : List ℕ) → put s (part s n bs) (rest s n bs) ≡ bs
put_part Front n bs = take-append-drop n bs
put_part Back n bs = take-append-drop (length bs - n) bs

length_rest : (s : Side) (n : ℕ) (bs : List ℕ) → length (rest s n bs) ≡ length bs - n
length_rest Front n bs = length-drop n bs
length_rest Back n bs = length-take-le (length bs - n) bs (omega arith)

length_put : (s : Side) (xs ys : List ℕ) → length (put s xs ys) ≡ length xs + length ys
length_put Front xs ys = length-append xs ys
length_put Back xs ys = simp length-append (omega arith)

put_put : (s : Side) (xs ys zs : List ℕ) → put s (put s xs ys) zs ≡ put s xs (put s ys zs)
put_put Front xs ys zs = append_assoc xs ys zs
put_put Back xs ys zs = sym (append_assoc zs ys xs)

-- and so it is with characters
encodes_put : (s : Side) (cs ds : List ℕ) → encodes (put s cs ds) ≡ put s (encodes cs) (encodes ds)
encodes_put Front cs ds = encodes-append cs ds
encodes_put Back cs ds = encodes-append ds cs

utf8_rest : (s : Side) (xs ys : List ℕ) → IsUtf8 (put s xs ys) → IsUtf8 xs → IsUtf8 ys
utf8_rest Front xs ys u v =
    let e = take_at xs ys _ refl in
    subst IsUtf8 (drop_at xs ys _ refl)
    (IsUtf8-drop (xs ++ ys) (length xs) u (IsCharBoundary-from_take (xs ++ ys) (length xs) u (simp length-append (omega arith)) (subst IsUtf8 (sym e) v)))
utf8_rest Back xs ys u v = utf8_before (ys ++ xs) ys xs u refl v

decodes_put : (s : Side) (xs ys : List ℕ) → IsUtf8 xs → IsUtf8 ys → chars (put s xs ys) ≡ put s (chars xs) (chars ys)
decodes_put Front xs ys u v = chars-append xs ys u
decodes_put Back xs ys u v = chars-append ys xs v

fails_append : (cs ds : List ℕ) → NonePass is_not_whitespace (cs ++ ds) → NonePass is_not_whitespace cs × NonePass is_not_whitespace ds
fails_append [] ds h = (tt, h)
fails_append (c ∷ cs) ds h = let r = fails_append cs ds h.1 in ((h.0, r.0), r.1)

fails_put : (s : Side) (cs ds : List ℕ) → NonePass is_not_whitespace (put s cs ds) → NonePass is_not_whitespace cs × NonePass is_not_whitespace ds
fails_put Front cs ds h = fails_append cs ds h
fails_put Back cs ds h = let r = fails_append ds cs h in (r.1, r.0)

-- some characters have one at the side
outer : (s : Side) (c : ℕ) (cs : List ℕ) → (d : ℕ) × (ds : List ℕ) × (c ∷ cs ≡ put s (d ∷ []) ds)
outer Front c cs = (c, cs, refl)
outer Back c [] = (c, [], refl)
outer Back c (e ∷ es) = let r = outer Back e es in (r.0, c ∷ r.1, ap (λ (l : List ℕ). c ∷ l) r.2)

outer_white : (s : Side) (cs : List ℕ) → NonePass is_not_whitespace cs → 0 < length cs → (c : ℕ) × (ds : List ℕ) × (is_whitespace c ≡ true) × (cs ≡ put s (c ∷ []) ds)
outer_white s [] h l = absurd (omega arith)
outer_white s (c ∷ cs) h l =
    let o = outer s c cs in
    (o.0, o.1, not-false (is_whitespace o.0) (fails_put s (o.0 ∷ []) o.1 (subst (NonePass is_not_whitespace) o.2 h)).0.0, o.2)

encodes_some : (cs : List ℕ) → 0 < length (encodes cs) → 0 < length cs
encodes_some [] l = l
encodes_some (c ∷ cs) l = omega arith

-- white space has a white character at each side
blank_outer : (s : Side) (bs : List ℕ) → NoCharPasses is_not_whitespace bs → 0 < length bs → (c : ℕ) × (xs : List ℕ) × (is_whitespace c ≡ true) × (bs ≡ put s (encode c) xs)
blank_outer s bs w l =
    let o = outer_white s w.0 w.2 (encodes_some w.0 (omega (arith, ap length w.1))) in (
      o.0,
      encodes o.1,
      o.2,
      sym w.1 ∙ ap encodes o.3 ∙ encodes_put s (o.0 ∷ []) o.1
          ∙ ap (λ (x : List ℕ). put s x (encodes o.1)) (append-nil (encode o.0)),
    )

-- what white space has beside white space is white space
blank_rest : (s : Side) (xs ys : List ℕ) → NoCharPasses is_not_whitespace (put s xs ys) → NoCharPasses is_not_whitespace xs → NoCharPasses is_not_whitespace ys
blank_rest s xs ys w v =
    let u = without_utf8 xs v in
    let y = utf8_rest s xs ys (without_utf8 (put s xs ys) w) u in
    let f = subst (NonePass is_not_whitespace) (decodes_put s xs ys u y) (without_decodes (put s xs ys) w) in
    (chars ys, encodes-chars ys y, (fails_put s (chars xs) (chars ys) f).1)

-- a longer part goes on where a shorter one ends
longer : (s : Side) (xs ys : List ℕ) (n : ℕ) → length xs < n → n ≤ length (put s xs ys)
    → (more : List ℕ) × (part s n (put s xs ys) ≡ put s xs more) × (ys ≡ put s more (rest s n (put s xs ys))) × (0 < length more)
longer Front xs ys n l h =
    let bs = xs ++ ys in
    let m = length xs in
    let short : length (take n bs) ≡ n = length-take-le n bs h in (
      drop m (take n bs),
      sym (take-append-drop m (take n bs)) ∙ ap (λ (x : List ℕ). x ++ drop m (take n bs)) (take-take m n bs (omega arith) ∙ take_at xs ys m refl),
      sym (drop_at xs ys m refl) ∙ ap (drop m) (sym (take-append-drop n bs)) ∙ drop-append-le m (take n bs) (drop n bs) (omega arith),
      simp length-drop (omega arith),
    )
longer Back xs ys n l h =
    let k = length (ys ++ xs) - n in
    let all = length-append ys xs in
    let short : k < length ys = omega arith in (
      drop k ys,
      drop-append-le k ys xs (omega arith),
      sym (take-append-drop k ys) ∙ ap (λ (x : List ℕ). x ++ drop k ys) (sym (take-append-le k ys xs (omega arith))),
      simp length-drop (omega arith),
    )

-- the greatest number that passes
most_is : (p : ℕ → Bool) (n m : ℕ) → m ≤ n → p m ≡ true → ((k : ℕ) → m < k → k ≤ n → p k ≡ true → ⊥) → most p n ≡ m
most_is p zero m l e h = omega arith
most_is p (suc n) m l e h =
    let below : m < suc n → most p (suc n) ≡ m = λ q.
    cond-false (p (suc n)) _ _ (not_so (p (suc n)) (λ z. z, λ z. z) (h (suc n) q (omega arith)))
    ∙ most_is p n m (omega arith) e (λ k a b. h k a (omega arith)) in
    let top : suc n ≤ m → most p (suc n) ≡ m = λ q.
    let r : suc n ≡ m = omega arith in cond-true (p (suc n)) _ _ (ap p r ∙ e) ∙ r in
    ⊎_elim below top (cases_lt m (suc n))

-- no longer part is white space where t has no white character at the side
none_longer : (s : Side) (ws t : List ℕ) → NoCharPasses is_not_whitespace ws → Bare s t
    → (n : ℕ) → length ws < n → n ≤ length (put s ws t) → blank (part s n (put s ws t)) ≡ true → ⊥
none_longer s ws t w b n l h e =
    let o = longer s ws t n l h in
    let c = blank_outer s o.0 (blank_rest s ws o.0 (subst (NoCharPasses is_not_whitespace) o.1 ((blank_decides _).0 e)) w) o.3 in
    let r = rest s n (put s ws t) in
    b c.0 (put s c.1 r) c.2 (o.2 ∙ ap (λ (x : List ℕ). put s x r) c.3 ∙ put_put s (encode c.0) c.1 r)

-- the law of a side leaves one answer
trim_put : (s : Side) (ws t : List ℕ) → NoCharPasses is_not_whitespace ws → Bare s t → t ≡ trim_at s (put s ws t)
unfolding trim_at
trim_put s ws t w b =
    let bs = put s ws t in
    let all = length_put s ws t in
    let whole = (blank_decides (part s (length ws) bs)).1 (subst (NoCharPasses is_not_whitespace) (sym (part_put s ws t)) w) in
    let m = most_is (λ n. blank (part s n bs)) (length bs) (length ws) (omega arith) whole (none_longer s ws t w b) in
    sym (ap (λ (n : ℕ). rest s n bs) m ∙ rest_put s ws t)

pub trim_at_is : (s : Side) (bs t : List ℕ) → Padded s bs t → Bare s t → t ≡ trim_at s bs
trim_at_is s bs t p b = trim_put s p.0 t p.2 b ∙ ap (trim_at s) (sym p.1)

-- white space at a side, taken in parts
without_put : (s : Side) (xs ys : List ℕ) → NoCharPasses is_not_whitespace xs → NoCharPasses is_not_whitespace ys → NoCharPasses is_not_whitespace (put s xs ys)
without_put Front xs ys v w = NoCharPasses-append is_not_whitespace xs ys v w
without_put Back xs ys v w = NoCharPasses-append is_not_whitespace ys xs w v

pub padded_more : (s : Side) (bs ts us : List ℕ) → Padded s bs ts → Padded s ts us → Padded s bs us
padded_more s bs ts us p q =
    (put s p.0 q.0, p.1 ∙ ap (put s p.0) q.1 ∙ sym (put_put s p.0 q.0 us), without_put s p.0 q.0 p.2 q.2)

pub padded_part : (s : Side) (n : ℕ) (bs xs ys : List ℕ) → ◌≡◌ {A = List ℕ × List ℕ} (xs, ys) (part s n bs, rest s n bs)
    → true ≡ blank xs → 0 < n → n ≤ length bs → Padded s bs ys × (length ys < length bs)
padded_part s n bs xs ys e b l h = (
  (xs, sym (ap (λ (p : List ℕ × List ℕ). put s p.0 p.1) e ∙ put_part s n bs), (blank_decides xs).0 (sym b)),
  omega (arith, ap (λ (p : List ℕ × List ℕ). length p.1) e, length_rest s n bs),
)

-- where no part of up to three bytes is white space, there is no white character
white_short : (c : ℕ) → is_whitespace c ≡ true → len_utf8 c < 4
white_short c w = grind (arith, nat_tests)

pub bare_from : (s : Side) (bs : List ℕ) → ((n : ℕ) → 0 < n → n < 4 → n ≤ length bs → blank (part s n bs) ≡ false) → Bare s bs
bare_from s bs h c xs w e =
    let n = length (encode c) in
    let long = length-encode c in
    let some = (len_utf8_bounds c).0 in
    let few = white_short c w in
    let all = ap length e ∙ length_put s (encode c) xs in
    both_ways (blank (part s n bs)) (h n (omega arith) (omega arith) (omega arith))
    (ap blank (ap (part s n) e ∙ part_put s (encode c) xs) ∙ (blank_decides (encode c)).1 (c ∷ [], append-nil (encode c), (not_from_true (is_whitespace c) w, tt)))
