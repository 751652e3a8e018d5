-- What is stored of a request, pair by pair.
use Rattle.std.proofs.Common.{◌≡◌, ℕ, ◌+◌, ◌-◌, ◌<◌, ◌≤◌, true, false, ltb, leb, ◌⊎◌, List, [], ◌∷◌, ◌++◌, map, length, take, drop, set, Some, None, Option, Result, sym, refl, ap, ◌∙◌, subst, inl, inr, ⊎_elim, arith}
use Rattle.std.proofs.lemmas.List.{append-nil, append_assoc, length-append, length-drop, take_at, drop_at}
use Rattle.std.proofs.lemmas.Bool.{both_ways, cases_lt, and_from, and_left, and_right, lt-ltb, le-ltb, le-leb, lt-leb}
use Rattle.std.specs.Result.{result_ok}
use Rattle.slices.specs.declared.rows.Full.{Full}
use Rattle.slices.specs.Answers.{told}
use Rattle.slices.specs.Held.{handed_back, pushed, IsPush, rows_over}
use Rattle.slices.specs.Parts.{part}
use Rattle.slices.proofs.Pushes.{rows_over_set, took, refused}
use Rattle.packetline.specs.Packets.{over}
use Rattle.requests.specs.declared.asked.MetaRow.{MetaRow}
use Rattle.requests.specs.Requests.{NoSpace}
use Rattle.requests.specs.Stored.{Pair, Request, request, and_pair, meta_bytes, bytes_of, used, row_of, rows_of, has_space, counts_of, pair_at, request_at, Holds, Keeping, LaysBehind, PairKept, StoresPair}

-- One pair more

pub meta_bytes_append : (ps qs : List Pair) → meta_bytes (ps ++ qs) ≡ meta_bytes ps ++ meta_bytes qs
meta_bytes_append [] qs = refl
meta_bytes_append (p ∷ ps) qs =
    ap (λ xs. p.0 ++ (p.1 ++ xs)) (meta_bytes_append ps qs)
    ∙ ap (λ xs. p.0 ++ xs) (sym (append_assoc p.1 (meta_bytes ps) (meta_bytes qs)))
    ∙ sym (append_assoc p.0 (p.1 ++ meta_bytes ps) (meta_bytes qs))

meta_bytes_push : (ps : List Pair) (p : Pair) → meta_bytes (ps ++ p ∷ []) ≡ (meta_bytes ps ++ p.0) ++ p.1
meta_bytes_push ps p =
    meta_bytes_append ps (p ∷ []) ∙ ap (λ xs. meta_bytes ps ++ (p.0 ++ xs)) (append-nil p.1) ∙ sym (append_assoc (meta_bytes ps) p.0 p.1)

-- more pairs take more room
pub used_more : (c : List ℕ) (ps qs : List Pair) → used (request c (ps ++ qs)) ≡ used (request c ps) + length (meta_bytes qs)
used_more c ps qs =
    ap (λ xs. length (c ++ xs)) (meta_bytes_append ps qs)
    ∙ ap length (sym (append_assoc c (meta_bytes ps) (meta_bytes qs)))
    ∙ length-append (c ++ meta_bytes ps) (meta_bytes qs)

pub bytes_push : (q : Request) (p : Pair) → bytes_of (and_pair q p) ≡ (bytes_of q ++ p.0) ++ p.1
bytes_push q p =
    ap (λ xs. q.command ++ xs) (meta_bytes_push q.pairs p)
    ∙ sym (append_assoc q.command (meta_bytes q.pairs ++ p.0) p.1)
    ∙ ap (λ xs. xs ++ p.1) (sym (append_assoc q.command (meta_bytes q.pairs) p.0))

pub used_push : (q : Request) (p : Pair) → used (and_pair q p) ≡ used q + length p.0 + length p.1
used_push q p = ap length (bytes_push q p) ∙ length-append (bytes_of q ++ p.0) p.1 ∙ ap (λ n. n + length p.1) (length-append (bytes_of q) p.0)

pub length_rows_of : (at : ℕ) (ps : List Pair) → length (rows_of at ps) ≡ length ps
length_rows_of at [] = refl
length_rows_of at (p ∷ ps) = omega (arith, length_rows_of (at + length p.0 + length p.1) ps)

rows_push : (at : ℕ) (ps : List Pair) (p : Pair) → rows_of at (ps ++ p ∷ []) ≡ rows_of at ps ++ row_of (at + length (meta_bytes ps)) p ∷ []
rows_push at [] p = let e : at ≡ at + 0 = omega arith in ap (λ n. row_of n p ∷ []) e
rows_push at (q ∷ ps) p =
    let l : length (q.0 ++ (q.1 ++ meta_bytes ps)) ≡ length q.0 + (length q.1 + length (meta_bytes ps)) =
    length-append q.0 (q.1 ++ meta_bytes ps) ∙ ap (λ n. length q.0 + n) (length-append q.1 (meta_bytes ps)) in
    let e : at + length q.0 + length q.1 + length (meta_bytes ps) ≡ at + length (q.0 ++ (q.1 ++ meta_bytes ps)) = omega arith in
    ap (λ rs. row_of at q ∷ rs) (rows_push (at + length q.0 + length q.1) ps p ∙ ap (λ n. rows_of (at + length q.0 + length q.1) ps ++ row_of n p ∷ []) e)

-- What rows and text area show

module _ (q : Request) (rows : List MetaRow) (text : List ℕ) (rows' : List MetaRow) (text' : List ℕ) (h : Holds q rows text rows' text') where
  -- rows and text area stay as long as they are
  pub holds_sizes : (length rows' ≡ length rows) × (length text' ≡ length text)
  holds_sizes =
      let size : length text' ≡ used q + (length text - used q) =
      ap length h.text_is ∙ length-append (bytes_of q) (drop (used q) text) ∙ ap (λ n. used q + n) (length-drop (used q) text) in
      let new = rows_of (length q.command) q.pairs in
      let many : length rows' ≡ length new + (length rows - length new) =
      ap length h.rows_are ∙ length-append new (drop (length new) rows) ∙ ap (λ n. length new + n) (length-drop (length new) rows) in
      let l = length_rows_of (length q.command) q.pairs in
      let a = h.rows_for in
      let b = h.room_for in
      (omega arith, omega arith)

pair_same : (p : Pair) (a b : List ℕ) → a ≡ p.0 → b ≡ p.1 → ◌≡◌ {A = Pair} (a, b) p
pair_same p a b e f = ap (λ x. (x, b)) e ∙ ap (λ y. (p.0, y)) f

pairs_shown : (at : ℕ) (front : List ℕ) (ps : List Pair) (rest : List ℕ) → length front ≡ at → map (pair_at (front ++ (meta_bytes ps ++ rest))) (rows_of at ps) ≡ ps
pairs_shown at front [] rest e = refl
pairs_shown at front (p ∷ ps) rest e =
    let more = meta_bytes ps ++ rest in
    let text = front ++ (meta_bytes (p ∷ ps) ++ rest) in
    let inner : meta_bytes (p ∷ ps) ++ rest ≡ p.0 ++ (p.1 ++ more) =
    append_assoc p.0 (p.1 ++ meta_bytes ps) rest ∙ ap (λ xs. p.0 ++ xs) (append_assoc p.1 (meta_bytes ps) rest) in
    let from_key : text ≡ front ++ (p.0 ++ (p.1 ++ more)) = ap (λ xs. front ++ xs) inner in
    let from_value : text ≡ (front ++ p.0) ++ (p.1 ++ more) = from_key ∙ sym (append_assoc front p.0 (p.1 ++ more)) in
    let behind : text ≡ ((front ++ p.0) ++ p.1) ++ more = from_value ∙ sym (append_assoc (front ++ p.0) p.1 more) in
    let far : length (front ++ p.0) ≡ at + length p.0 = length-append front p.0 ∙ ap (λ n. n + length p.0) e in
    let end : length ((front ++ p.0) ++ p.1) ≡ at + length p.0 + length p.1 = length-append (front ++ p.0) p.1 ∙ ap (λ n. n + length p.1) far in
    let key : part text (row_of at p).key ≡ p.0 =
    ap (λ t. take (length p.0) (drop at t)) from_key ∙ ap (take (length p.0)) (drop_at front (p.0 ++ (p.1 ++ more)) at e) ∙ take_at p.0 (p.1 ++ more) (length p.0) refl in
    let value : part text (row_of at p).value ≡ p.1 =
    ap (λ t. take (length p.1) (drop (at + length p.0) t)) from_value ∙ ap (take (length p.1)) (drop_at (front ++ p.0) (p.1 ++ more) (at + length p.0) far) ∙ take_at p.1 more (length p.1) refl in
    ap (λ (x : Pair). x ∷ map (pair_at text) (rows_of (at + length p.0 + length p.1) ps)) (pair_same p _ _ key value)
    ∙ ap (λ (t : List ℕ). p ∷ map (pair_at t) (rows_of (at + length p.0 + length p.1) ps)) behind
    ∙ ap (λ (xs : List Pair). p ∷ xs) (pairs_shown (at + length p.0 + length p.1) ((front ++ p.0) ++ p.1) ps rest end)

pub holds_shows : (q : Request) (rows : List MetaRow) (text : List ℕ) (rows' : List MetaRow) (text' : List ℕ) → Holds q rows text rows' text' → request_at rows' text' (counts_of q) ≡ q
holds_shows q rows text rows' text' h =
    let new = rows_of (length q.command) q.pairs in
    let rest = drop (used q) text in
    let lies : text' ≡ q.command ++ (meta_bytes q.pairs ++ rest) = h.text_is ∙ append_assoc q.command (meta_bytes q.pairs) rest in
    let command : take (length q.command) text' ≡ q.command = ap (take (length q.command)) lies ∙ take_at q.command (meta_bytes q.pairs ++ rest) (length q.command) refl in
    let held : take (length q.pairs) rows' ≡ new = ap (take (length q.pairs)) h.rows_are ∙ take_at new (drop (length new) rows) (length q.pairs) (length_rows_of (length q.command) q.pairs) in
    let pairs : map (pair_at text') (take (length q.pairs) rows') ≡ q.pairs =
    ap (map (pair_at text')) held ∙ ap (λ (t : List ℕ). map (pair_at t) new) lies ∙ pairs_shown (length q.command) q.command q.pairs rest refl in
    ap (λ (c : List ℕ). request c (map (pair_at text') (take (length q.pairs) rows'))) command ∙ ap (request q.command) pairs

-- Space

pub space_there : (rows room : ℕ) (q : Request) (p : Pair) → length q.pairs < rows → used (and_pair q p) ≤ room → has_space rows room q p ≡ true
space_there rows room q p r u =
    and_from (ltb (length q.pairs) rows) (leb (used (and_pair q p)) room) (lt-ltb (length q.pairs) rows r) (le-leb (used (and_pair q p)) room u)

pub space_not : (rows room : ℕ) (q : Request) (p : Pair) → NoSpace rows room q p → has_space rows room q p ≡ false
space_not rows room q p why =
    ⊎_elim
    (λ (l : rows ≤ length q.pairs). and_left (ltb (length q.pairs) rows) (leb (used (and_pair q p)) room) (le-ltb (length q.pairs) rows l))
    (λ (l : room < used q + length p.0 + length p.1). and_right (ltb (length q.pairs) rows) _ (lt-leb (used (and_pair q p)) room (omega (arith, used_push q p))))
    why

pub space_none : (rows room : ℕ) (q : Request) (p : Pair) → has_space rows room q p ≡ false → NoSpace rows room q p
space_none rows room q p e =
    ⊎_elim
    (λ (r : length q.pairs < rows).
    ⊎_elim
    (λ (l : room < used (and_pair q p)). inr (omega (arith, used_push q p)))
    (λ (l : used (and_pair q p) ≤ room). absurd (both_ways (has_space rows room q p) e (space_there rows room q p r l)))
    (cases_lt room (used (and_pair q p))))
    (λ (r : rows ≤ length q.pairs). inl r)
    (cases_lt (length q.pairs) rows)

-- Storing a pair

module _ (at : ℕ) (rows : List MetaRow) (count : ℕ) (text k v : List ℕ) where
  abbrev pair : Pair
  pair = (k, v)

  module _ (q : Request) (space : List MetaRow) (area : List ℕ) (was : Keeping q space area rows count text at) where
    sizes : (length rows ≡ length space) × (length text ≡ length area)
    sizes = holds_sizes q space area rows text was.holds

    -- one that finds no row or no room
    no_space : (length text < at + length k + length v) ⊎ (length rows ≤ count) → has_space (length space) (length area) q pair ≡ false
    no_space why =
        let s = sizes in
        space_not (length space) (length area) q pair
        (⊎_elim
        (λ (l : length text < at + length k + length v). inr (omega (arith, was.place)))
        (λ (l : length rows ≤ count). inl (omega (arith, was.counted)))
        why)

    -- one that finds both
    some_space : at + length k + length v ≤ length text → count < length rows → has_space (length space) (length area) q pair ≡ true
    some_space l m =
        let u = used_push q pair in
        let s = sizes in
        space_there (length space) (length area) q pair (omega (arith, was.counted)) (omega (arith, was.place))

    keeping_more : (text₁ text₂ : List ℕ) → LaysBehind at text k text₁ → LaysBehind (at + length k) text₁ v text₂ → at + length k + length v ≤ length text → count < length rows
        → Keeping (and_pair q pair) space area (set rows count (row_of at pair)) (count + 1) text₂ (at + length k + length v)
    keeping_more text₁ text₂ first second room row =
        let u = used_push q pair in
        let s = sizes in
        let new = rows_of (length q.command) q.pairs in
        let l = length_rows_of (length q.command) q.pairs in
        let many : count ≡ length new = was.counted ∙ sym l in
        let t₁ = first (bytes_of q) area was.place was.holds.text_is in
        let t₂ = second (bytes_of q ++ k) area (ap (λ n. n + length k) was.place ∙ sym (length-append (bytes_of q) k)) t₁ in
        let place : at ≡ length q.command + length (meta_bytes q.pairs) = was.place ∙ length-append q.command (meta_bytes q.pairs) in
        record {
          holds =
              record {
                rows_are =
                    ap (λ rs. set rs count (row_of at pair)) was.holds.rows_are
                    ∙ ap (λ n. set (rows_over new space) n (row_of at pair)) many
                    ∙ rows_over_set new space (row_of at pair) (omega arith)
                    ∙ ap (λ n. rows_over (new ++ row_of n pair ∷ []) space) place
                    ∙ ap (λ rs. rows_over rs space) (sym (rows_push (length q.command) q.pairs pair));
                text_is = t₂ ∙ ap (λ xs. over xs area) (sym (bytes_push q pair));
                rows_for = simp length-append (omega (arith, was.counted));
                room_for = omega (arith, was.place);
              };
          counted = simp length-append (omega (arith, was.counted));
          place = omega (arith, was.place);
        }

  module _ (r : Result (Unit {0}) (Full MetaRow)) (rows' : List MetaRow) (count' : ℕ) where
    pub pair_stored : (text₁ text₂ : List ℕ) (u : Unit {0}) (behind : ℕ) → LaysBehind at text k text₁ → LaysBehind (at + length k) text₁ v text₂ → at + length k + length v ≤ length text
        → (told (λ u. u) handed_back r, rows', count') ≡ pushed rows count (row_of at pair) → result_ok r ≡ Some u → behind ≡ at + length k + length v
        → StoresPair at rows count text pair (Some behind) rows' count' text₂
    pair_stored text₁ text₂ u behind first second room push ok be q space area was =
        let t = took rows rows' count count' (row_of at pair) r u push ok in
        let more = keeping_more q space area was text₁ text₂ first second room t.0 in (
          some_space q space area was room t.0,
          subst (λ n. Keeping (and_pair q pair) space area rows' count' text₂ n) (sym be)
              (subst (λ l. Keeping (and_pair q pair) space area l count' text₂ (at + length k + length v)) (sym t.1)
              (subst (λ i. Keeping (and_pair q pair) space area (set rows count (row_of at pair)) i text₂ (at + length k + length v)) (sym t.2) more)),
        )

    pub pair_without_row : (o : Option ℕ) → o ≡ None → IsPush rows count (row_of at pair) (told (λ u. u) handed_back r) rows' count' → result_ok r ≡ None
        → StoresPair at rows count text pair o rows' count' text
    pair_without_row o none push err q space area was =
        let t = refused rows rows' count count' (row_of at pair) r push err in
        subst (λ x. PairKept q space area pair at x rows' count' text) (sym none) (
          no_space q space area was (inr t.0),
          subst (λ l. Keeping q space area l count' text at) (sym t.1) (subst (λ i. Keeping q space area rows i text at) (sym t.2) was),
        )

  pub pair_too_long : length text < at + length k + length v → StoresPair at rows count text pair None rows count text
  pair_too_long long q space area was = (no_space q space area was (inl long), was)
