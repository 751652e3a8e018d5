-- What a listing keeps, from one line to the next.
use Rattle.std.proofs.Common.{◌≡◌, ℕ, zero, suc, ◌+◌, ◌-◌, ◌<◌, ◌≤◌, Bool, true, false, not, cond, ltb, ◌⊎◌, List, [], ◌∷◌, ◌++◌, length, get_or, take, drop, set, is_some, Some, None, Option, Result, sym, refl, ap, ◌∙◌, subst, inl, inr, ⊎_elim, arith}
use borrow.Rule.Slice.PartMut.{put_mid}
use Rattle.std.proofs.lemmas.List.{append-nil, append_assoc, length-append, length-drop, take_at, drop_at}
use Rattle.std.proofs.lemmas.Bool.{lt-ltb, le-ltb, ltb-true, ltb-false, cond-true, cond-false}
use Rattle.std.specs.Result.{result_ok}
use Rattle.slices.specs.declared.rows.Full.{Full}
use Rattle.slices.specs.Answers.{told}
use Rattle.slices.specs.Held.{handed_back, pushed, IsPush, rows_over}
use Rattle.slices.proofs.Pushes.{rows_over_set, took, refused}
use Rattle.packetline.specs.Packets.{over}
use Rattle.packetline.proofs.Laying.{over_part}
use Rattle.host.specs.Parts.{joined}
use Rattle.client.specs.declared.paths.Kept.{Kept}
use Rattle.client.specs.declared.paths.PathRow.{PathRow}
use Rattle.client.specs.Paths.{fitting, rows_of, part_at, FirstOf, Stored, Keeping, KeepsPath, KeepsLine, most, listed}
use Rattle.client.proofs.Fits.{fits, no_fit, fitting_first, fitting_stuck, fitting_on}

-- Lists that are laid over the front of others

pub joined_append : (ps qs : List (List ℕ)) → joined (ps ++ qs) ≡ joined ps ++ joined qs
joined_append [] qs = refl
joined_append (p ∷ ps) qs = ap (λ l. p ++ l) (joined_append ps qs) ∙ sym (append_assoc p (joined ps) (joined qs))

pub joined_push : (ps : List (List ℕ)) (p : List ℕ) → joined (ps ++ p ∷ []) ≡ joined ps ++ p
joined_push ps p = joined_append ps (p ∷ []) ∙ ap (λ l. joined ps ++ l) (append-nil p)

pub length_rows_of : (at : ℕ) (ps : List (List ℕ)) → length (rows_of at ps) ≡ length ps
length_rows_of at [] = refl
length_rows_of at (p ∷ ps) = omega (arith, length_rows_of (at + length p) ps)

pub rows_of_append : (at : ℕ) (ps qs : List (List ℕ)) → rows_of at (ps ++ qs) ≡ rows_of at ps ++ rows_of (at + length (joined ps)) qs
rows_of_append at [] qs = let e : at ≡ at + 0 = omega arith in ap (λ n. rows_of n qs) e
rows_of_append at (p ∷ ps) qs =
    let e : at + length p + length (joined ps) ≡ at + length (p ++ joined ps) = simp length-append (omega arith) in
    ap (λ rs. record { at = at; len = length p } ∷ rs) (rows_of_append (at + length p) ps qs ∙ ap (λ n. rows_of (at + length p) ps ++ rows_of n qs) e)

-- the part of the text at the k-th row is the k-th path
places_of : (at : ℕ) (front : List ℕ) (ps : List (List ℕ)) (back : List PathRow) (rest : List ℕ) (k : ℕ) → length front ≡ at → k < length ps
    → part_at (get_or (rows_of at ps ++ back) k (record { at = 0; len = 0 })) (front ++ (joined ps ++ rest)) ≡ get_or ps k []
places_of at front [] back rest k e h = absurd (omega arith)
places_of at front (p ∷ ps) back rest zero e h =
    ap (take (length p)) (drop_at front ((p ++ joined ps) ++ rest) at e ∙ append_assoc p (joined ps) rest) ∙ take_at p (joined ps ++ rest) (length p) refl
places_of at front (p ∷ ps) back rest (suc k) e h =
    let row : PathRow = get_or (rows_of (at + length p) ps ++ back) k (record { at = 0; len = 0 }) in
    ap (part_at row) (ap (λ l. front ++ l) (append_assoc p (joined ps) rest) ∙ sym (append_assoc front p (joined ps ++ rest)))
    ∙ places_of (at + length p) (front ++ p) ps back rest k (simp length-append (omega arith)) (omega arith)

-- What a listing keeps

keeping_as :
    (named : List (List ℕ)) (rows : List PathRow) (text : List ℕ) (kept : Kept) (rows' : List PathRow) (count : ℕ) (text' : List ℕ) (stored : List (List ℕ))
    → fitting (length rows) (length text) named ≡ stored → count ≡ length stored → rows' ≡ rows_over (rows_of 0 stored) rows → text' ≡ over (joined stored) text
    → kept.named ≡ most (length named) → kept.next ≡ cond (ltb (length stored) (length named)) None (Some (length (joined stored)))
    → Keeping named rows text kept rows' count text'
keeping_as named rows text kept rows' count text' stored e c r t n f =
    record {
      stored_so_far =
          record {
            count = c ∙ ap length (sym e);
            rows_are = r ∙ ap (λ ps. rows_over (rows_of 0 ps) rows) (sym e);
            text_is = t ∙ ap (λ ps. over (joined ps) text) (sym e);
            first = fitting_first named (length rows) (length text);
            places = λ k h.
                ap (λ l. part_at (get_or l k (record { at = 0; len = 0 })) text') r
                ∙ ap (part_at (get_or (rows_over (rows_of 0 stored) rows) k (record { at = 0; len = 0 }))) t
                ∙ places_of 0 [] stored (drop (length (rows_of 0 stored)) rows) (drop (length (joined stored)) text) k refl (omega arith)
                ∙ ap (λ ps. get_or ps k []) (sym e);
          };
      counted = n;
      next_is = f ∙ ap (λ ps. cond (ltb (length ps) (length named)) None (Some (length (joined ps)))) (sym e);
    }

pub keeping_none : (rows : List PathRow) (text : List ℕ) → Keeping [] rows text (record { named = 0; next = Some 0 }) rows 0 text
keeping_none rows text = keeping_as [] rows text (record { named = 0; next = Some 0 }) rows 0 text [] refl refl refl refl (omega arith) refl

-- the next place, where there is one
place_is : (b : Bool) (at n : ℕ) → Some at ≡ cond b None (Some n) → (b ≡ false) × (at ≡ n)
place_is true at n e = let z : ◌≡◌ {A = ℕ} 0 1 = cc in absurd (omega arith)
place_is false at n e = (refl, cc)

-- and where there is none
no_place : (b : Bool) (n : ℕ) → None ≡ cond b None (Some n) → b ≡ true
no_place true n e = refl
no_place false n e = let z : ◌≡◌ {A = ℕ} 0 1 = cc in absurd (omega arith)

module _ (named : List (List ℕ)) (rows : List PathRow) (text : List ℕ) (kept : Kept) (rows' : List PathRow) (count : ℕ) (text' : List ℕ) (was : Keeping named rows text kept rows' count text') where
  -- the rows stay as many, and so do the bytes of the text area
  pub keeping_sizes : (length rows' ≡ length rows) × (length text' ≡ length text)
  keeping_sizes =
      let stored : List (List ℕ) = fitting (length rows) (length text) named in
      let first : FirstOf named (length rows) (length text) stored = was.stored_so_far.first in
      let size : length text' ≡ length (joined stored) + (length text - length (joined stored)) = ap length was.stored_so_far.text_is ∙ simp (length-append, length-drop) in
      let many : length rows' ≡ length stored + (length rows - length stored) =
      ap length was.stored_so_far.rows_are ∙ simp (length-append, length-drop) (rw length_rows_of refl) in
      (omega arith, omega arith)

  -- the next place lies in the text area
  pub keeping_room : (at : ℕ) → kept.next ≡ Some at → at ≤ length text'
  keeping_room at e =
      let stored : List (List ℕ) = fitting (length rows) (length text) named in
      let size : length text' ≡ length (joined stored) + (length text - length (joined stored)) = ap length was.stored_so_far.text_is ∙ simp (length-append, length-drop) in
      let place = (place_is (ltb (length stored) (length named)) at (length (joined stored)) (sym e ∙ was.next_is)).1 in
      omega (arith, place)

  -- what is stored at the end, where rows and count go by other names
  pub keeping_stored : (lent after : List PathRow) (stored : ℕ) → rows ≡ lent → after ≡ rows' → stored ≡ count → Stored named lent text stored after text'
  keeping_stored lent after stored re ae ce =
      subst (λ s. Stored named s text stored after text') re
      (subst (λ s. Stored named rows text stored s text') (sym ae) (subst (λ n. Stored named rows text n rows' text') (sym ce) was.stored_so_far))

  -- whether a path found no space
  pub keeping_full : not (is_some kept.next) ≡ ltb (length (fitting (length rows) (length text) named)) (length named)
  keeping_full = ap (λ o. not (is_some o)) was.next_is ∙ flag (ltb (length (fitting (length rows) (length text) named)) (length named)) (length (joined (fitting (length rows) (length text) named)))
    where
      flag : (b : Bool) (n : ℕ) → not (is_some (cond b None (Some n))) ≡ b
      flag true n = refl
      flag false n = refl

-- One path more

module _ (named : List (List ℕ)) (rows : List PathRow) (text : List ℕ) (m : ℕ) (rows' : List PathRow) (count : ℕ) (text' : List ℕ) (p : List ℕ) where
  abbrev stored : List (List ℕ)
  stored = fitting (length rows) (length text) named

  -- a path that finds a row and room is stored
  pub keeping_more : (at : ℕ) (part : List ℕ) (k : ℕ)
      → Keeping named rows text (record { named = m; next = Some at }) rows' count text' → at + length p ≤ length text' → count < length rows' → k ≡ length p → part ≡ p
      → Keeping (named ++ p ∷ []) rows text (record { named = most (m + 1); next = Some (at + length p) }) (set rows' count (record { at = at; len = length p })) (count + 1) (put_mid at k text' part)
  keeping_more at part k was room space ke pe =
      let first : FirstOf named (length rows) (length text) stored = was.stored_so_far.first in
      let sizes = keeping_sizes named rows text _ rows' count text' was in
      let c : count ≡ length stored = was.stored_so_far.count in
      let next = place_is (ltb (length stored) (length named)) at (length (joined stored)) was.next_is in
      let u : at ≡ length (joined stored) = next.1 in
      let all : length named ≤ length stored = ltb-false (length stored) (length named) next.0 in
      let on : fitting (length rows) (length text) (named ++ p ∷ []) ≡ stored ++ p ∷ [] =
      fitting_on named (p ∷ []) (length rows) (length text) all ∙ ap (λ qs. stored ++ qs) (fits (length rows - length stored) (length text - length (joined stored)) p [] (omega (arith, sizes, u)) (omega (arith, sizes, u))) in
      let row : PathRow = record { at = at; len = length p } in
      let many : count ≡ length (rows_of 0 stored) = c ∙ sym (length_rows_of 0 stored) in
      let place : at ≡ 0 + length (joined stored) = omega (arith, u) in
      let rs : set rows' count row ≡ rows_over (rows_of 0 (stored ++ p ∷ [])) rows =
      ap (λ l. set l count row) was.stored_so_far.rows_are
      ∙ ap (λ i. set (rows_over (rows_of 0 stored) rows) i row) many
      ∙ rows_over_set (rows_of 0 stored) rows row (omega (arith, sizes, many))
      ∙ ap (λ (i : ℕ). rows_over (rows_of 0 stored ++ record { at = i; len = length p } ∷ []) rows) place
      ∙ ap (λ l. rows_over l rows) (sym (rows_of_append 0 stored (p ∷ []))) in
      let ts : put_mid at k text' part ≡ over (joined (stored ++ p ∷ [])) text =
      ap (λ i. put_mid i k text' part) u
      ∙ ap (λ i. put_mid (length (joined stored)) i text' part) ke
      ∙ ap (λ l. put_mid (length (joined stored)) (length p) text' l) pe
      ∙ ap (λ l. put_mid (length (joined stored)) (length p) l p) was.stored_so_far.text_is
      ∙ over_part (joined stored) text (length (joined stored)) refl (length p) p refl
      ∙ ap (λ l. over l text) (sym (joined_push stored p)) in
      let far : at + length p ≡ length (joined (stored ++ p ∷ [])) =
      ap (λ i. i + length p) u ∙ sym (length-append (joined stored) p) ∙ ap length (sym (joined_push stored p)) in
      keeping_as (named ++ p ∷ []) rows text (record { named = most (m + 1); next = Some (at + length p) }) (set rows' count row) (count + 1) (put_mid at k text' part) (stored ++ p ∷ [])
      on
      (simp length-append (omega arith))
      rs ts
      (simp length-append (omega (arith, was.counted)))
      (ap (λ i. Some i) far ∙ sym (cond-false (ltb (length (stored ++ p ∷ [])) (length (named ++ p ∷ []))) None (Some (length (joined (stored ++ p ∷ [])))) (le-ltb (length (stored ++ p ∷ [])) (length (named ++ p ∷ [])) (simp length-append (omega arith)))))

  -- a path that is not stored is counted only
  left_by : (next : Option ℕ) → Keeping named rows text (record { named = m; next = next }) rows' count text' → fitting (length rows) (length text) (named ++ p ∷ []) ≡ stored
      → Keeping (named ++ p ∷ []) rows text (record { named = most (m + 1); next = None }) rows' count text'
  left_by next was on =
      let first : FirstOf named (length rows) (length text) stored = was.stored_so_far.first in
      let below : length stored ≤ length named = omega (arith, simp length-append at (ap length first.are)) in
      keeping_as (named ++ p ∷ []) rows text (record { named = most (m + 1); next = None }) rows' count text' stored
      on was.stored_so_far.count was.stored_so_far.rows_are was.stored_so_far.text_is
      (simp length-append (omega (arith, was.counted)))
      (sym (cond-true (ltb (length stored) (length (named ++ p ∷ []))) None (Some (length (joined stored))) (lt-ltb (length stored) (length (named ++ p ∷ [])) (simp length-append (omega arith)))))

  -- as one that comes after one without space
  pub keeping_stuck : Keeping named rows text (record { named = m; next = None }) rows' count text' → Keeping (named ++ p ∷ []) rows text (record { named = most (m + 1); next = None }) rows' count text'
  keeping_stuck was =
      let short = ltb-true (length stored) (length named) (no_place (ltb (length stored) (length named)) (length (joined stored)) was.next_is) in
      left_by None was (fitting_stuck named (p ∷ []) (length rows) (length text) short)

  -- or one that finds no room or no row
  pub keeping_left : (at : ℕ) → Keeping named rows text (record { named = m; next = Some at }) rows' count text' → (length text' < at + length p) ⊎ (length rows' ≤ count)
      → Keeping (named ++ p ∷ []) rows text (record { named = most (m + 1); next = None }) rows' count text'
  keeping_left at was why =
      let first : FirstOf named (length rows) (length text) stored = was.stored_so_far.first in
      let sizes = keeping_sizes named rows text _ rows' count text' was in
      let c : count ≡ length stored = was.stored_so_far.count in
      let next = place_is (ltb (length stored) (length named)) at (length (joined stored)) was.next_is in
      let u : at ≡ length (joined stored) = next.1 in
      let all : length named ≤ length stored = ltb-false (length stored) (length named) next.0 in
      left_by (Some at) was
      (fitting_on named (p ∷ []) (length rows) (length text) all
      ∙ ap (λ qs. stored ++ qs) (no_fit (length rows - length stored) (length text - length (joined stored)) p []
      (⊎_elim (λ (l : length text' < at + length p). inr (omega (arith, sizes, u))) (λ (l : length rows' ≤ count). inl (omega (arith, sizes, c))) why))
      ∙ append-nil stored)

-- Storing a path

module _ (at : ℕ) (rows : List PathRow) (count : ℕ) (text p : List ℕ) where
  abbrev row : PathRow
  row = record { at = at; len = length p }

  module _ (r : Result (Unit {0}) (Full PathRow)) (rows' : List PathRow) (count' : ℕ) where
    pub path_stored : (k : ℕ) (u : Unit {0}) (part : List ℕ)
        → at + length p ≤ length text → (told (λ u. u) handed_back r, rows', count') ≡ pushed rows count row → result_ok r ≡ Some u → k ≡ length p → part ≡ p
        → KeepsPath (Some at) rows count text p (Some (at + length p)) rows' count' (put_mid at k text part)
    path_stored k u part room push ok ke pe named space area m was =
        let kept' : Kept = record { named = most (m + 1); next = Some (at + length p) } in
        let t = took rows rows' count count' row r u push ok in
        let more : Keeping (named ++ p ∷ []) space area kept' (set rows count row) (count + 1) (put_mid at k text part) = keeping_more named space area m rows count text p at part k was room t.0 ke pe in
        subst (λ l. Keeping (named ++ p ∷ []) space area kept' l count' (put_mid at k text part)) (sym t.1)
        (subst (λ i. Keeping (named ++ p ∷ []) space area kept' (set rows count row) i (put_mid at k text part)) (sym t.2) more)

    pub path_without_row : (next : Option ℕ) → next ≡ None → IsPush rows count row (told (λ u. u) handed_back r) rows' count' → result_ok r ≡ None
        → KeepsPath (Some at) rows count text p next rows' count' text
    path_without_row next none push err named space area m was =
        let t = refused rows rows' count count' row r push err in
        let kept' : Kept = record { named = most (m + 1); next = None } in
        subst (λ o. Keeping (named ++ p ∷ []) space area (record { named = most (m + 1); next = o }) rows' count' text) (sym none)
        (subst (λ l. Keeping (named ++ p ∷ []) space area kept' l count' text) (sym t.1)
        (subst (λ i. Keeping (named ++ p ∷ []) space area kept' rows i text) (sym t.2) (keeping_left named space area m rows count text p at was (inr t.0))))

  pub path_too_long : length text < at + length p → KeepsPath (Some at) rows count text p None rows count text
  path_too_long long named space area m was = keeping_left named space area m rows count text p at was (inl long)

-- A line

pub line_passed : (kept : Kept) (rows : List PathRow) (count : ℕ) (text : List ℕ) (o : Option (List ℕ)) → None ≡ o → KeepsLine kept rows count text o kept rows count text
line_passed kept rows count text o e named space area was =
    subst (λ q. Keeping (named ++ listed q) space area kept rows count text) e (subst (λ ps. Keeping ps space area kept rows count text) (sym (append-nil named)) was)

module _ (kept : Kept) (rows : List PathRow) (count : ℕ) (text p : List ℕ) (o : Option (List ℕ)) (some : Some p ≡ o) where
  renamed : (next : Option ℕ) → kept.next ≡ next → {named : List (List ℕ)} {space : List PathRow} {area : List ℕ} → Keeping named space area kept rows count text
      → Keeping named space area (record { named = kept.named; next = next }) rows count text
  renamed next e {named} {space} {area} was = subst (λ x. Keeping named space area (record { named = kept.named; next = x }) rows count text) e was

  pub line_stored : (n at : ℕ) (next : Option ℕ) (rows' : List PathRow) (count' : ℕ) (text' : List ℕ) → n ≡ most (kept.named + 1) → kept.next ≡ Some at
      → KeepsPath (Some at) rows count text p next rows' count' text' → KeepsLine kept rows count text o (record { named = n; next = next }) rows' count' text'
  line_stored n at next rows' count' text' ne e on named space area was =
      subst (λ q. Keeping (named ++ listed q) space area (record { named = n; next = next }) rows' count' text') some
      (subst (λ i. Keeping (named ++ p ∷ []) space area (record { named = i; next = next }) rows' count' text') (sym ne) (on named space area kept.named (renamed (Some at) e was)))

  pub line_left : (n : ℕ) → n ≡ most (kept.named + 1) → kept.next ≡ None → KeepsLine kept rows count text o (record { named = n; next = None }) rows count text
  line_left n ne e named space area was =
      subst (λ q. Keeping (named ++ listed q) space area (record { named = n; next = None }) rows count text) some
      (subst (λ i. Keeping (named ++ p ∷ []) space area (record { named = i; next = None }) rows count text) (sym ne) (keeping_stuck named space area kept.named rows count text p (renamed None e was)))
