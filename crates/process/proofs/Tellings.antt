-- What a status reading tells.
use Rattle.std.proofs.Common.{◌≡◌, ℕ, ◌+◌, true, ◌&&◌, List, [], ◌∷◌, ◌++◌, map, Some, None, Ok, Err, codes, Option, Result, sym, refl, ap, ◌∙◌, subst, arith}
use Rattle.std.specs.List.{AllByRecursion}
use Rattle.std.proofs.ByRecursion.{All-push}
use Rattle.std.proofs.lemmas.List.{append_assoc}
use Rattle.std.proofs.lemmas.Bool.{and_parts}
use Rattle.packetline.specs.Packets.{Pkt, flush, line, Decoded, packets, flushes_of}
use Rattle.packetline.specs.Lines.{kind_of}
use Rattle.packetline.specs.Text.{utf8, trim_end}
use Rattle.host.specs.declared.fault.LineFault.{LineFault}
use Rattle.host.specs.Talk.{bytes_sent, bytes_given, Areas, Wire, read_text, Sight, Talks}
use Rattle.process.specs.declared.status.Status.{Status}
use Rattle.process.specs.declared.status.Status.TheVariants.{Previous, Unset, Named}
use Rattle.process.specs.Given.{ReadsAs, all_text, TalksBy}
use Rattle.process.specs.Statuses.{status_in, told_by, after_lines, status_of, NoStatus, Tells, noted_by, status_step, read_status, StatusLines, StatusLaw}
use Rattle.process.proofs.LineKinds.{StatusPart, status_part}
use Rattle.process.proofs.Passes.{Passes, AText, Turns, Quiet, quiet_none, quiet_noted, text_passes, gather_passes, Told, told_by_talk}

-- Lists of lines

pub map_push : {X Y : Type 0} (f : X → Y) (xs : List X) (x : X) → map f (xs ++ x ∷ []) ≡ map f xs ++ f x ∷ []
map_push f [] x = refl
map_push f (y ∷ xs) x = ap (λ ys. f y ∷ ys) (map_push f xs x)

pub text_push : (ls : List (List ℕ)) (l : List ℕ) → all_text ls ≡ true → utf8 l ≡ true → all_text (ls ++ l ∷ []) ≡ true
text_push [] l h k = ap (λ b. b && true) k
text_push (x ∷ ls) l h k = let p = and_parts (utf8 x) (all_text ls) h in ap (λ b. b && all_text (ls ++ l ∷ [])) p.0 ∙ text_push ls l p.1 k

pub flushes_append : (ps qs : List Pkt) → flushes_of (ps ++ qs) ≡ flushes_of ps + flushes_of qs
flushes_append [] qs = omega arith
flushes_append (p ∷ ps) qs = let i = flushes_append ps qs in omega arith

pub lines_flushes : (ls : List (List ℕ)) → flushes_of (map line ls) ≡ 0
lines_flushes [] = refl
lines_flushes (l ∷ ls) = let i = lines_flushes ls in omega arith

-- lines up to a flush are the same lines, and so is what follows
pub lines_same : (ls ms : List (List ℕ)) (xs ys : List Pkt) → map line ls ++ flush ∷ xs ≡ map line ms ++ flush ∷ ys → (ls ≡ ms) × (xs ≡ ys)
lines_same [] [] xs ys e = (refl, cc)
lines_same [] (m ∷ ms) xs ys e = let z : ◌≡◌ {A = ℕ} 0 1 = cc in absurd (omega arith)
lines_same (l ∷ ls) [] xs ys e = let z : ◌≡◌ {A = ℕ} 0 1 = cc in absurd (omega arith)
lines_same (l ∷ ls) (m ∷ ms) xs ys e =
    let head : l ≡ m = cc in
    let tail : map line ls ++ flush ∷ xs ≡ map line ms ++ flush ∷ ys = cc in
    let i = lines_same ls ms xs ys tail in
    (ap (λ x. x ∷ ls) head ∙ ap (λ x. m ∷ x) i.0, i.1)

-- bytes read as one list of packets
pub reads_same : (bytes : List ℕ) (ps qs : List Pkt) → ReadsAs bytes ps → ReadsAs bytes qs → ps ≡ qs
reads_same bytes ps qs e f = ap (λ (x : Decoded). x.packets) (sym e ∙ f)

-- The status after lines

after_push : (st : Status) (ts : List (List ℕ)) (t : List ℕ) → after_lines st (ts ++ t ∷ []) ≡ told_by (after_lines st ts) (status_in (kind_of t))
after_push st [] t = refl
after_push st (x ∷ ts) t = after_push (told_by st (status_in (kind_of x))) ts t

not_none : {X : Type 0} (xs : List X) (x : X) → xs ++ x ∷ [] ≡ [] → ⊥
not_none [] x e = let z : ◌≡◌ {A = ℕ} 0 1 = cc in omega arith
not_none (y ∷ xs) x e = let z : ◌≡◌ {A = ℕ} 0 1 = cc in omega arith

tells_push : (ts : List (List ℕ)) (s : Status) (t : List ℕ) (o : Option (List ℕ)) → Tells ts s → StatusPart t o → Tells (ts ++ t ∷ []) (told_by s o)
tells_push ts s t (Some n) h k = (ts, (n, ([], ap (λ x. ts ++ x ∷ []) k, tt, refl)))
tells_push ts Previous t None h k = (not_none ts t, subst (λ xs. AllByRecursion NoStatus (xs ++ t ∷ [])) (sym h) (k, tt))
tells_push ts Unset t None h k = (not_none ts t, All-push NoStatus ts t h.1 k)
tells_push ts (Named w n) t None h k =
    let before = h.0 in
    let name = h.1.0 in
    let after = h.1.1.0 in
    (before, (name, (after ++ t ∷ [], ap (λ xs. xs ++ t ∷ []) h.1.1.1 ∙ append_assoc before ((codes "status=" ++ name) ∷ after) (t ∷ []), All-push NoStatus after t h.1.1.2 k, h.1.1.3)))

-- so far these packets were lines that tell this status
record SoFar (hs : List Pkt) (s : Status) : Type 0 where
  lines : List (List ℕ)
  are : hs ≡ map line lines
  texts : all_text lines ≡ true
  value : s ≡ status_of (map trim_end lines)
  tells : Tells (map trim_end lines) s

quiet_by : (o : Option (List ℕ)) → Quiet (noted_by o)
quiet_by None = quiet_none
quiet_by (Some s) = quiet_noted s

status_turn : (hs gs ss : List Pkt) (s : Status) (x : Option (List ℕ)) → SoFar hs s → AText gs ss x → Turns SoFar StatusLines (hs ++ gs) (status_step s x)
status_turn hs gs ss s None i h =
    record { lines = i.lines; are = ap (λ xs. xs ++ gs) i.are ∙ ap (λ xs. map line i.lines ++ xs) h.0; texts = i.texts; value = i.value; tells = i.tells }
status_turn hs gs ss s (Some t) i h =
    let l = h.0 in
    let o = status_in (kind_of t) in
    let more : map trim_end (i.lines ++ l ∷ []) ≡ map trim_end i.lines ++ t ∷ [] = map_push trim_end i.lines l ∙ ap (λ x. map trim_end i.lines ++ x ∷ []) h.3 in (
      quiet_by o,
      record {
        lines = i.lines ++ l ∷ [];
        are = ap (λ xs. xs ++ gs) i.are ∙ ap (λ xs. map line i.lines ++ xs) h.1 ∙ sym (map_push line i.lines l);
        texts = text_push i.lines l i.texts h.2;
        value = ap (λ x. told_by x o) i.value ∙ sym (after_push Previous (map trim_end i.lines) t) ∙ ap status_of (sym more);
        tells = subst (λ ts. Tells ts (told_by s o)) (sym more) (tells_push (map trim_end i.lines) s t o i.tells (status_part t));
      },
    )

no_flush_yet : (hs gs : List Pkt) (s : Status) → SoFar hs s → flushes_of gs ≡ 0 → flushes_of (hs ++ gs) ≡ 0
no_flush_yet hs gs s i z = let a = flushes_append hs gs in let b = ap flushes_of i.are ∙ lines_flushes i.lines in omega arith

silent : (gs ss : List Pkt) (x : Option (List ℕ)) → AText gs ss x → ss ≡ []
silent gs ss None h = h.1
silent gs ss (Some t) h = h.4

pub text_silent : (gs ss : List Pkt) (x : Option (List ℕ)) → AText gs ss x → ss ≡ []
text_silent gs ss x h = silent gs ss x h

-- a status was read
abbrev pub StatusPassed : List Pkt → List Pkt → Status → Type 0
StatusPassed gs ss s = (ss ≡ []) × StatusLines gs s

abbrev pub NoStatusPassed : List Pkt → List Pkt → Type 0
NoStatusPassed gs ss = (ss ≡ []) × (flushes_of gs ≡ 0)

pub status_passes : (v : Wire) → Passes StatusPassed NoStatusPassed v (read_status v)
status_passes v =
    gather_passes read_text status_step text_passes silent SoFar StatusLines (λ gs. flushes_of gs ≡ 0) status_turn no_flush_yet Previous v
    (record { lines = []; are = refl; texts = refl; value = refl; tells = refl })

pub one_flush : (ps : List Pkt) (s : Status) → StatusLines ps s → flushes_of ps ≡ 1
one_flush ps s h =
    let a = flushes_append (map line h.lines) (flush ∷ []) in
    let b = lines_flushes h.lines in
    let c = ap flushes_of h.are in
    let d : flushes_of (flush ∷ []) ≡ 1 = refl in
    omega arith

-- the same packets tell the same status
pub status_same : (ps : List Pkt) (s t : Status) → StatusLines ps s → StatusLines ps t → s ≡ t
status_same ps s t h k =
    let e = lines_same h.lines k.lines [] [] (sym h.are ∙ k.are) in
    h.value ∙ ap (λ ls. status_of (map trim_end ls)) e.0 ∙ sym k.value

no_zero : (n : ℕ) → n ≡ 0 → n ≡ 1 → ⊥
no_zero n a b = omega arith

law_by : (sent given : List ℕ) (r : Result Status LineFault) → Told StatusPassed NoStatusPassed sent given r → StatusLaw sent given r
law_by sent given (Ok s) (gs, (ss, reads, said, h)) =
    record {
      silent = said ∙ ap packets h.0;
      only = λ x e. let same : s ≡ x = cc in (gs, reads, subst (StatusLines gs) same h.1);
      all = λ ps x e k. ap (λ y. Ok y) (status_same gs s x h.1 (subst (λ qs. StatusLines qs x) (reads_same given ps gs e reads) k));
    }
law_by sent given (Err f) (gs, (ss, reads, said, h)) =
    record {
      silent = said ∙ ap packets h.0;
      only = λ x e. let z : ◌≡◌ {A = ℕ} 0 1 = cc in absurd (omega arith);
      all = λ ps x e k.
          let same : gs ≡ ps = sym reads ∙ ap (λ (y : Decoded). y.packets) e in
          absurd (no_zero (flushes_of ps) (ap flushes_of (sym same) ∙ h.1) (one_flush ps x k));
    }

-- a status reading has its law
pub status_talk : {w : Sight} {p : ℕ} {a : Areas} {r : Result Status LineFault} {w' : Sight} {a' : Areas} → Talks read_status w p a r w' a' → TalksBy StatusLaw read_status w p a r w' a'
status_talk {r = r} t = (t, law_by (bytes_sent t.events) (bytes_given t.events) r (told_by_talk StatusPassed NoStatusPassed read_status status_passes t))
