-- What a line's kind says of the line.
use Rattle.std.proofs.Common.{◌≡◌, ℕ, Bool, true, false, cond, List, ◌++◌, length, take, drop, Some, None, codes, Option, sym, refl, ap, ◌∙◌, subst, arith}
use Rattle.std.specs.Str.{bytes_eq}
use Rattle.std.proofs.lemmas.Slice.Eq.{bytes_eq-Decides}
use Rattle.std.proofs.lemmas.List.{take-append-drop, take_at, drop_at}
use Rattle.std.proofs.lemmas.Bool.{both_ways, cond-true}
use Rattle.packetline.specs.Lines.{Kind, status, capability, version, pathname, other, after_prefix, or_next, kind_of, NotAfter, IsLine}
use Rattle.process.specs.Statuses.{status_in, NoStatus}

-- the part after a prefix
abbrev pub After : List ℕ → List ℕ → Option (List ℕ) → Type 0
After p bs None = NotAfter bs p
After p bs (Some r) = p ++ r ≡ bs

after_by : (p bs : List ℕ) (b : Bool) → bytes_eq (take (length p) bs) p ≡ b → After p bs (cond b (Some (drop (length p) bs)) None)
after_by p bs true e = ap (λ xs. xs ++ drop (length p) bs) (sym ((bytes_eq-Decides (take (length p) bs) p).0 e)) ∙ take-append-drop (length p) bs
after_by p bs false e =
    λ rest is. both_ways _ e ((bytes_eq-Decides (take (length p) bs) p).1 (ap (take (length p)) is ∙ take_at p rest (length p) refl))

pub after_law : (p bs : List ℕ) → After p bs (after_prefix p bs)
unfolding after_prefix
after_law p bs = after_by p bs (bytes_eq (take (length p) bs) p) refl

pub after_some : (p bs x : List ℕ) → after_prefix p bs ≡ Some x → bs ≡ p ++ x
after_some p bs x h = sym (subst (After p bs) h (after_law p bs))

pub after_append : (p x : List ℕ) → after_prefix p (p ++ x) ≡ Some x
unfolding after_prefix
after_append p x =
    cond-true (bytes_eq (take (length p) (p ++ x)) p) (Some (drop (length p) (p ++ x))) None ((bytes_eq-Decides (take (length p) (p ++ x)) p).1 (take_at p x (length p) refl))
    ∙ ap Some (drop_at p x (length p) refl)

kind_by : (bs : List ℕ) (a b c d : Option (List ℕ)) → After (codes "status=") bs a → After (codes "capability=") bs b → After (codes "version=") bs c → After (codes "pathname=") bs d
    → IsLine bs (or_next a status (or_next b capability (or_next c version (or_next d pathname (other bs)))))
kind_by bs (Some s) b c d ha hb hc hd = record { writes = ha; plain = tt }
kind_by bs None (Some s) c d ha hb hc hd = record { writes = hb; plain = tt }
kind_by bs None None (Some s) d ha hb hc hd = record { writes = hc; plain = tt }
kind_by bs None None None (Some s) ha hb hc hd = record { writes = hd; plain = tt }
kind_by bs None None None None ha hb hc hd = record { writes = refl; plain = (ha, (hb, (hc, (hd, tt)))) }

-- a line is of a kind that writes it
pub kind_law : (bs : List ℕ) → IsLine bs (kind_of bs)
kind_law bs = kind_by bs _ _ _ _ (after_law (codes "status=") bs) (after_law (codes "capability=") bs) (after_law (codes "version=") bs) (after_law (codes "pathname=") bs)

-- a status line, or none
abbrev pub StatusPart : List ℕ → Option (List ℕ) → Type 0
StatusPart t None = NoStatus t
StatusPart t (Some s) = t ≡ codes "status=" ++ s

status_by : (t : List ℕ) (k : Kind) → IsLine t k → StatusPart t (status_in k)
status_by t (status s) h = sym h.writes
status_by t (capability s) h = λ rest is. let e = h.writes ∙ is in let z : ◌≡◌ {A = ℕ} 99 115 = cc in omega arith
status_by t (version s) h = λ rest is. let e = h.writes ∙ is in let z : ◌≡◌ {A = ℕ} 118 115 = cc in omega arith
status_by t (pathname s) h = λ rest is. let e = h.writes ∙ is in let z : ◌≡◌ {A = ℕ} 112 115 = cc in omega arith
status_by t (other l) h = subst (λ x. NotAfter x (codes "status=")) h.writes h.plain.0

pub status_part : (t : List ℕ) → StatusPart t (status_in (kind_of t))
status_part t = status_by t (kind_of t) (kind_law t)
