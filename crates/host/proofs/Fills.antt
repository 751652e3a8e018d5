-- The loop that fills an area, by what came so far.
use Rattle.std.proofs.Common.{◌≡◌, ℕ, ◌+◌, ◌-◌, ◌<◌, ◌≤◌, leb, List, [], ◌∷◌, ◌++◌, length, take, drop, Ok, Err, Result, sym, refl, ap, ◌∙◌, arith, take-add}
use borrow.Rule.Slice.PartMut.{put_mid, post_of, put_same}
use Rattle.std.proofs.lemmas.List.{append_assoc, append-nil, length-take, length-drop, length-append, length-take-le, take_at, drop_at, take_rest, take_all, drop_all, drop-drop}
use Rattle.std.proofs.lemmas.Bool.{le-leb, lt-leb, cond-true, cond-false}
use Rattle.host.specs.declared.fault.Fault.{Fault}
use Rattle.host.specs.Worlds.{World, waits, taken, stop}
use Rattle.packetline.specs.Packets.{over}
use Rattle.host.specs.Acts.{Received, taking, Log, Grows}
use Rattle.host.specs.Fills.{Filled, Brought}
use Rattle.host.proofs.Logging.{brought_then, brought_is, brought_some, brought_refused}
use Rattle.host.proofs.Takes.{taken_none, taken_taken, taken_all, waits_taken, stop_taken}

-- got bytes of those that waited in w lie at the front of area
abbrev pub Came : World → ℕ → List ℕ → ℕ → World → List ℕ → Type 0
Came w p area got w₁ area₁ =
    (got ≤ length area) × (got ≤ length (waits w p)) × (w₁ ≡ taken w p got) × (area₁ ≡ take got (waits w p) ++ drop got area)

over_taken : (n : ℕ) (ws area : List ℕ) → n ≤ length ws → over (take n ws) area ≡ take n ws ++ drop n area
over_taken n ws area h = ap (λ m. take n ws ++ drop m area) (length-take-le n ws h)

-- the area after a part of it, from got on, was written
lay_more : (ws area area₁ part : List ℕ) (got n : ℕ) → got ≤ length area → got ≤ length ws
    → area₁ ≡ take got ws ++ drop got area
    → part ≡ take n (drop got ws) ++ drop n (take (length area₁ - got) (drop got area₁))
    → put_mid got (length area₁ - got) area₁ part ≡ take (got + n) ws ++ drop (got + n) area
lay_more ws area area₁ part got n a b e f =
    let front : take got area₁ ≡ take got ws = ap (take got) e ∙ take_at (take got ws) (drop got area) got (length-take-le got ws b) in
    let back : drop got area₁ ≡ drop got area = ap (drop got) e ∙ drop_at (take got ws) (drop got area) got (length-take-le got ws b) in
    let post : post_of got (length area₁ - got) area₁ ≡ [] = drop_all (length area₁ - got) (drop got area₁) (simp length-drop (omega arith)) in
    let mid : part ≡ take n (drop got ws) ++ drop (got + n) area =
    f ∙ ap (λ l. take n (drop got ws) ++ drop n l) (take_rest area₁ got ∙ back) ∙ ap (λ l. take n (drop got ws) ++ l) (drop-drop n got area) in
    ap (λ l. l ++ (part ++ post_of got (length area₁ - got) area₁)) front
    ∙ ap (λ l. take got ws ++ (part ++ l)) post
    ∙ ap (λ l. take got ws ++ l) (append-nil part ∙ mid)
    ∙ sym (append_assoc (take got ws) (take n (drop got ws)) (drop (got + n) area))
    ∙ ap (λ l. l ++ drop (got + n) area) (sym (take-add got n ws))

pub came_none : (w : World) (p : ℕ) (area : List ℕ) → Came w p area 0 w area
came_none w p area = (omega arith, omega arith, sym (taken_none w p), refl)

module _ (w : World) (p : ℕ) (area : List ℕ) (got : ℕ) (w₁ : World) (area₁ : List ℕ) (came : Came w p area got w₁ area₁) where
  waits_now : waits w₁ p ≡ drop got (waits w p)
  waits_now = ap (λ v. waits v p) came.2 ∙ waits_taken w p got

  length_now : length area₁ ≡ length area
  length_now = ap length came.3 ∙ simp (length-append, length-take, length-drop) (omega (arith, came.0, came.1))

  pub came_more : (n : ℕ) (w₂ : World) (part : List ℕ)
      → Received w₁ p (take (length area₁ - got) (drop got area₁)) (Ok n) w₂ part
      → Came w p area (got + n) w₂ (put_mid got (length area₁ - got) area₁ part)
  came_more n w₂ part h = (
    (let k = simp (length-take, length-drop) at h.0 in omega (arith, k, came.0, length_now)),
    (let k = simp length-drop at (rw waits_now at h.1) in omega (arith, k, came.1)),
    h.3 ∙ ap (λ v. taken v p n) came.2 ∙ taken_taken w p got n,
    lay_more (waits w p) area area₁ part got n came.0 came.1 came.3 (h.4 ∙ over_taken n (waits w₁ p) _ h.1 ∙ ap (λ l. take n l ++ drop n (take (length area₁ - got) (drop got area₁))) waits_now),
  )

  pub came_stop : (f : Fault) (r : Result (Unit {0}) Fault) (w₂ : World) (part : List ℕ) → got < length area
      → Received w₁ p (take (length area₁ - got) (drop got area₁)) (Err f) w₂ part → r ≡ Err f
      → Filled w p area r w₂ (put_mid got (length area₁ - got) area₁ part)
  came_stop f r w₂ part lt h e =
      let ws = waits w p in
      let none : drop got ws ≡ [] = sym waits_now ∙ h.1 in
      let few : length ws ≤ got = let k = simp length-drop at (ap length none) in omega (arith, k) in
      let whole : put_mid got (length area₁ - got) area₁ part ≡ area₁ =
      ap (put_mid got (length area₁ - got) area₁) h.4 ∙ put_same got (length area₁ - got) area₁ in
      let all : take got ws ≡ take (length area) ws = take_all got ws few ∙ sym (take_all (length area) ws (omega arith)) in
      let len : length (take (length area) ws) ≡ got = ap length (sym all) ∙ length-take-le got ws came.1 in
      record {
        answer = e ∙ ap (λ x. Err x) (h.2 ∙ ap (λ v. stop v p) came.2 ∙ stop_taken w p got)
            ∙ sym (cond-false (leb (length area) (length ws)) (Ok tt) (Err (stop w p)) (lt-leb (length area) (length ws) (omega arith)));
        after = h.3 ∙ came.2 ∙ taken_all w p got (length area) few (omega arith);
        laid = whole ∙ came.3 ∙ ap (λ l. l ++ drop got area) all ∙ ap (λ n. take (length area) ws ++ drop n area) (sym len);
      }

  pub came_all : (r : Result (Unit {0}) Fault) → length area ≤ got → r ≡ Ok tt → Filled w p area r w₁ area₁
  came_all r h e =
      let ws = waits w p in
      let same : got ≡ length area = omega (arith, came.0) in
      let len : length (take (length area) ws) ≡ got = ap (λ n. length (take n ws)) (sym same) ∙ length-take-le got ws came.1 in
      record {
        answer = e ∙ sym (cond-true (leb (length area) (length ws)) (Ok tt) (Err (stop w p)) (le-leb (length area) (length ws) (omega (arith, came.1))));
        after = came.2 ∙ ap (taken w p) same;
        laid = came.3 ∙ ap (λ n. take n ws ++ drop got area) same ∙ ap (λ n. take (length area) ws ++ drop n area) (sym len);
      }

  -- what the log has grown by
  module _ (g g₁ g₂ : Log) (logs : Brought p g (take got (waits w p)) g₁) where
    pub logs_more : (n : ℕ) (w₂ : World) (rest part : List ℕ) → Received w₁ p rest (Ok n) w₂ part → Grows g₁ (taking p (Ok (take n part)) ∷ []) g₂ → Brought p g (take (got + n) (waits w p)) g₂
    logs_more n w₂ rest part h k =
        let bytes : take n part ≡ take n (drop got (waits w p)) =
        ap (take n) h.4 ∙ take_at (take n (waits w₁ p)) (drop (length (take n (waits w₁ p))) rest) n (length-take-le n (waits w₁ p) h.1) ∙ ap (take n) waits_now in
        brought_is p (sym (take-add got n (waits w p))) (brought_then p logs (brought_is p bytes (brought_some p (take n part) k)))

    pub logs_stop : (f : Fault) (w₂ : World) (rest part : List ℕ) → got < length area → Received w₁ p rest (Err f) w₂ part → Grows g₁ (taking p (Err f) ∷ []) g₂ → Brought p g (take (length area) (waits w p)) g₂
    logs_stop f w₂ rest part lt h k =
        let ws = waits w p in
        let few : length ws ≤ got = let k = simp length-drop at (ap length (sym waits_now ∙ h.1)) in omega (arith, k) in
        let all : take got ws ≡ take (length area) ws = take_all got ws few ∙ sym (take_all (length area) ws (omega arith)) in
        brought_is p (append-nil (take got ws) ∙ all) (brought_then p logs (brought_refused p f k))

    pub logs_all : length area ≤ got → Brought p g (take (length area) (waits w p)) g₁
    logs_all h = let same : got ≡ length area = omega (arith, came.0) in brought_is p (ap (λ n. take n (waits w p)) same) logs
