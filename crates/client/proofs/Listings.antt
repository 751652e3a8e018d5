-- What a listing tells.
use Rattle.std.proofs.Common.{◌≡◌, ℕ, ◌+◌, ◌≤◌, List, [], ◌∷◌, ◌++◌, Ok, Err, Result, sym, refl, ap, ◌∙◌, subst, arith}
use Rattle.std.proofs.lemmas.List.{append_assoc, append-nil}
use Rattle.packetline.specs.Packets.{Pkt, flush, delimiter, response_end, line, Decoded, packets, flush_one, flushes_of}
use Rattle.host.specs.declared.fault.LineFault.{LineFault}
use Rattle.host.specs.Talk.{bytes_sent, bytes_given, Areas, Wire, send_all, read, Sight, Talks}
use Rattle.process.specs.declared.status.Status.{Status}
use Rattle.process.specs.Given.{ReadsAs}
use Rattle.process.specs.Statuses.{read_status, first, StatusLines}
use Rattle.client.specs.Requests.{as_first, first_status, status_then}
use Rattle.client.specs.Listings.{list_request, lines_step, read_lines, lines_then, listing, ListLaw}
use Rattle.process.proofs.Passes.{Passes, passes_then, passes_so, passes_got, send_all_passes, OneRead, read_passes, Turns, quiet_none, gather_passes, Told, told_by_talk}
use Rattle.process.proofs.Tellings.{flushes_append, reads_same, NoStatusPassed, status_passes, one_flush, status_same}

-- What passes

-- packets without a flush, and then a flush
abbrev pub LinesAre : List Pkt → Type 0
LinesAre gs = (ls : List Pkt) × (flushes_of ls ≡ 0) × (gs ≡ ls ++ flush ∷ [])

passed_over : (hs gs : List Pkt) (p : Pkt) → flushes_of hs ≡ 0 → flush_one p ≡ 0 → gs ≡ p ∷ [] → flushes_of (hs ++ gs) ≡ 0
passed_over hs gs p h z e = let a = flushes_append hs gs in let b : flushes_of gs ≡ flush_one p + 0 = ap flushes_of e in omega arith

lines_turn : (hs gs ss : List Pkt) (s : Unit {0}) (p : Pkt) → flushes_of hs ≡ 0 → OneRead gs ss p → Turns (λ ps (_ : Unit {0}). flushes_of ps ≡ 0) (λ ps (_ : Unit {0}). LinesAre ps) (hs ++ gs) (lines_step s p)
lines_turn hs gs ss s flush i h = (hs, i, ap (λ xs. hs ++ xs) h.0)
lines_turn hs gs ss s delimiter i h = (quiet_none, passed_over hs gs delimiter i refl h.0)
lines_turn hs gs ss s response_end i h = (quiet_none, passed_over hs gs response_end i refl h.0)
lines_turn hs gs ss s (line l) i h = (quiet_none, passed_over hs gs (line l) i refl h.0)

abbrev pub LinesPassed : List Pkt → List Pkt → Unit {0} → Type 0
LinesPassed gs ss _ = (ss ≡ []) × LinesAre gs

pub lines_passes : (v : Wire) → Passes LinesPassed NoStatusPassed v (read_lines v)
lines_passes v =
    gather_passes read lines_step read_passes (λ gs ss p h. h.1) (λ ps (_ : Unit {0}). flushes_of ps ≡ 0) (λ ps (_ : Unit {0}). LinesAre ps) (λ ps. flushes_of ps ≡ 0) lines_turn
    (λ hs gs s i z. let a = flushes_append hs gs in omega arith) tt v refl

abbrev FirstPassed : List Pkt → List Pkt → Status → Type 0
FirstPassed gs ss s = (ss ≡ []) × ((s₀ : Status) × StatusLines gs s₀ × (s ≡ first s₀))

first_passes : (v : Wire) → Passes FirstPassed NoStatusPassed v (first_status v)
first_passes v =
    passes_then as_first v (read_status v) (status_passes v)
    (λ gs ss s u h. passes_got (first s) u (append-nil ss ∙ h.0, (s, subst (λ ps. StatusLines ps s) (sym (append-nil gs)) h.1, refl)))
    (λ gs ss h. h)

-- packets without a flush, a flush, and packets that tell a status
abbrev pub ListingIs : List Pkt → Status → Type 0
ListingIs gs s = (ls : List Pkt) × ((ps : List Pkt) × ((s₀ : Status) × (flushes_of ls ≡ 0) × (gs ≡ ls ++ flush ∷ ps) × StatusLines ps s₀ × (s ≡ first s₀)))

abbrev AnswerPassed : List Pkt → List Pkt → Status → Type 0
AnswerPassed gs ss s = (ss ≡ []) × ListingIs gs s

abbrev pub OneFlush : List Pkt → List Pkt → Type 0
OneFlush gs ss = flushes_of gs ≤ 1

after_lines : (gs : List Pkt) → LinesAre gs → (hs : List Pkt) (s : Status) → (s₀ : Status) × StatusLines hs s₀ × (s ≡ first s₀) → ListingIs (gs ++ hs) s
after_lines gs h hs s k = (h.0, (hs, (k.0, h.1, ap (λ xs. xs ++ hs) h.2 ∙ append_assoc h.0 (flush ∷ []) hs, k.1, k.2)))

lines_flush : (gs : List Pkt) → LinesAre gs → flushes_of gs ≡ 1
lines_flush gs h = let a = flushes_append h.0 (flush ∷ []) in let b = ap flushes_of h.2 in let c : flushes_of (flush ∷ []) ≡ 1 = refl in omega (arith, h.1)

answer_passes : (v : Wire) → Passes AnswerPassed OneFlush v (lines_then tt v)
answer_passes v =
    passes_then status_then v (read_lines v) (lines_passes v)
    (λ gs ss x u h.
    passes_so u (first_status u) (first_passes u)
    (λ hs ts s k. (ap (λ xs. xs ++ ts) h.0 ∙ k.0, after_lines gs h.1 hs s k.1))
    (λ hs ts k. let a = flushes_append gs hs in let b = lines_flush gs h.1 in omega (arith, k.1)))
    (λ gs ss h. omega (arith, h.1))

abbrev pub ListPassed : List Pkt → List Pkt → Status → Type 0
ListPassed gs ss s = (ss ≡ list_request) × ListingIs gs s

pub listing_passes : (v : Wire) → Passes ListPassed OneFlush v (listing v)
listing_passes v =
    passes_then lines_then v (send_all list_request v) (send_all_passes list_request v)
    (λ gs ss x u h.
    passes_so u (lines_then tt u) (answer_passes u)
    (λ hs ts s k. (ap (λ xs. ss ++ xs) k.0 ∙ append-nil ss ∙ h.1, subst (λ xs. ListingIs (xs ++ hs) s) (sym h.0) k.1))
    (λ hs ts k. subst (λ xs. flushes_of (xs ++ hs) ≤ 1) (sym h.0) k))
    (λ gs ss h. let a = ap flushes_of h in let b : flushes_of [] ≡ 0 = refl in omega arith)

-- The law

-- packets up to the first flush are the same packets, and so is what follows
flush_same : (ls ms xs ys : List Pkt) → flushes_of ls ≡ 0 → flushes_of ms ≡ 0 → ls ++ flush ∷ xs ≡ ms ++ flush ∷ ys → (ls ≡ ms) × (xs ≡ ys)
flush_same [] [] xs ys h k e = (refl, cc)
flush_same [] (m ∷ ms) xs ys h k e = let f : flush_one flush ≡ flush_one m = cc in absurd (omega arith)
flush_same (l ∷ ls) [] xs ys h k e = let f : flush_one l ≡ flush_one flush = cc in absurd (omega arith)
flush_same (l ∷ ls) (m ∷ ms) xs ys h k e =
    let head : l ≡ m = cc in
    let tail : ls ++ flush ∷ xs ≡ ms ++ flush ∷ ys = cc in
    let i = flush_same ls ms xs ys (omega arith) (omega arith) tail in
    (ap (λ x. x ∷ ls) head ∙ ap (λ x. m ∷ x) i.0, i.1)

two_flushes : (ls ps : List Pkt) (s : Status) → flushes_of (ls ++ flush ∷ ps) ≤ 1 → StatusLines ps s → ⊥
two_flushes ls ps s h k =
    let a = flushes_append ls (flush ∷ ps) in
    let b = one_flush ps s k in
    let c : flushes_of (flush ∷ ps) ≡ 1 + flushes_of ps = refl in
    omega arith

law_by : (sent given : List ℕ) (r : Result Status LineFault) → Told ListPassed OneFlush sent given r → ListLaw sent given r
law_by sent given (Ok s) (gs, (ss, reads, said, h)) =
    let ls = h.1.0 in
    let ps = h.1.1.0 in
    let s₁ = h.1.1.1.0 in
    let is = h.1.1.1 in
    record {
      says = λ x e. said ∙ ap packets h.0;
      only = λ x e. let same : x ≡ s = cc in (ls, (ps, (s₁, is.1, subst (ReadsAs given) is.2 reads, is.3, same ∙ is.4)));
      all = λ ls' ps' s₀ z e k.
          let same = flush_same ls ls' ps ps' is.1 z (sym is.2 ∙ reads_same given gs (ls' ++ flush ∷ ps') reads e) in
          ap (λ y. Ok y) (is.4 ∙ ap first (status_same ps s₁ s₀ is.3 (subst (λ qs. StatusLines qs s₀) (sym same.1) k)));
    }
law_by sent given (Err f) (gs, (ss, reads, said, h)) =
    record {
      says = λ x e. let z : ◌≡◌ {A = ℕ} 0 1 = cc in absurd (omega arith);
      only = λ x e. let z : ◌≡◌ {A = ℕ} 0 1 = cc in absurd (omega arith);
      all = λ ls ps s₀ z e k.
          let same : gs ≡ ls ++ flush ∷ ps = sym reads ∙ ap (λ (y : Decoded). y.packets) e in
          absurd (two_flushes ls ps s₀ (subst (λ xs. flushes_of xs ≤ 1) same h) k);
    }

-- a listing has its law
pub list_talk : {w : Sight} {p : ℕ} {a : Areas} {r : Result Status LineFault} {w' : Sight} {a' : Areas} (t : Talks listing w p a r w' a') → ListLaw (bytes_sent t.events) (bytes_given t.events) r
list_talk {r = r} t = law_by (bytes_sent t.events) (bytes_given t.events) r (told_by_talk ListPassed OneFlush listing listing_passes t)
