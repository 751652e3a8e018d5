-- The place of a name, and a line for each name.
use Rattle.std.proofs.Common.{◌≡◌, ℕ, ◌+◌, ◌<◌, Bool, true, false, cond, List, [], ◌∷◌, ◌++◌, map, length, get_or, drop, Some, None, Ok, Err, codes, sym, refl, ap, ◌∙◌, subst, ⊎_elim, arith}
use Rattle.std.specs.Str.{bytes_eq}
use Rattle.std.proofs.lemmas.Slice.Eq.{bytes_eq-Decides}
use Rattle.std.proofs.lemmas.Bool.{cases_Bool, both_ways, cond-false}
use Rattle.slices.specs.declared.name.Name.{Name}
use Rattle.slices.specs.declared.name.OutsideLimits.{OutsideLimits}
use Rattle.slices.specs.Answers.{told}
use Rattle.slices.specs.First.{first_from}
use Rattle.slices.specs.Limits.{is_name}
use Rattle.slices.specs.Names.{name_bytes, name_number}
use Rattle.packetline.specs.Packets.{flush, line_pkt}
use Rattle.process.specs.Masks.{place_of}
use Rattle.process.proofs.Lines.{lines_next}
use Rattle.handshake.specs.Judged.{capability_line}
use Rattle.handshake.specs.Servers.{name_at, shared_line}
use Rattle.handshake.specs.Places.{AllWithin}
use Rattle.handshake.proofs.Placing.{among_at}
use Rattle.std.proofs.lemmas.List.{get_or-map}

module _ (text : List ℕ) (no : is_name text ≡ false) where
  -- a name is lawful, so it is not spelt like a text that is no name
  not_spelt : (n : Name) → bytes_eq (name_bytes n) text ≡ false
  not_spelt n =
      ⊎_elim (λ e. absurd (both_ways (is_name text) no (ap is_name (sym ((bytes_eq-Decides (name_bytes n) text).0 e)) ∙ n.lawful))) (λ e. e)
      (cases_Bool (bytes_eq (name_bytes n) text))

  none_from : (i : ℕ) (names : List Name) → None ≡ first_from (λ n. bytes_eq (name_bytes n) text) i names
  none_from i [] = refl
  none_from i (n ∷ names) = none_from (i + 1) names ∙ sym (cond-false (bytes_eq (name_bytes n) text) (Some i) _ (not_spelt n))

refused : (text : List ℕ) (b : Bool) (k : ℕ) → Err k ≡ cond b (Ok text) (Err 2) → b ≡ false
refused text true k e = let z : ◌≡◌ {A = ℕ} 0 1 = cc in absurd (omega arith)
refused text false k e = refl

-- a text that is refused as a name has no place
pub place_none : (names : List Name) (text : List ℕ) (e : OutsideLimits) → told name_bytes name_number (Err e) ≡ cond (is_name text) (Ok text) (Err 2) → None ≡ place_of names text
place_none names text e h = none_from text (refused text (is_name text) _ h) 0 names

-- names from the i-th on, of which the first has these bytes
pub names_next : (names : List Name) (i : ℕ) (n : Name) (bytes : List ℕ) → i < length names → n ≡ get_or names i n → bytes ≡ name_bytes n
    → map capability_line (drop i names) ++ flush ∷ [] ≡ line_pkt (codes "capability=" ++ bytes) ∷ (map capability_line (drop (i + 1) names) ++ flush ∷ [])
names_next names i n bytes h at is =
    lines_next capability_line names i n h ∙ ap (λ b. line_pkt (codes "capability=" ++ b) ∷ (map capability_line (drop (i + 1) names) ++ flush ∷ [])) (sym (is ∙ ap name_bytes at))

-- the places from the i-th on, of which the first is that of a name with these bytes
pub shared_next : (names : List Name) (items ks : List ℕ) (i : ℕ) (n : Name) (bytes : List ℕ) → items ≡ ks → AllWithin (length names) ks → i < length items → n ≡ get_or names (get_or items i 0) n → bytes ≡ name_bytes n
    → map (shared_line names) (drop i ks) ++ flush ∷ [] ≡ line_pkt (codes "capability=" ++ bytes) ∷ (map (shared_line names) (drop (i + 1) ks) ++ flush ∷ [])
shared_next names items ks i n bytes same all h at is =
    let k = ap (λ (l : List ℕ). get_or l i 0) same in
    let inside : i < length ks = subst (λ (l : List ℕ). i < length l) same h in
    let low = all (get_or ks i 0) (among_at ks i 0 inside) in
    let here : name_at names (get_or ks i 0) ≡ bytes =
    get_or-map name_bytes names (get_or ks i 0) n [] low ∙ ap name_bytes (sym (at ∙ ap (λ (j : ℕ). get_or names j n) k)) ∙ sym is in
    lines_next (shared_line names) ks i 0 inside ∙ ap (λ (b : List ℕ). line_pkt (codes "capability=" ++ b) ∷ (map (shared_line names) (drop (i + 1) ks) ++ flush ∷ [])) here
