-- An exchange with a process of a mirror.
use Rattle.std.proofs.Common.{◌≡◌, ℕ, ◌+◌, ◌-◌, ◌<◌, ◌≤◌, true, cond, leb, ◌&&◌, ◌||◌, List, [], ◌∷◌, ◌++◌, length, take, Some, None, Ok, Err, codes, Option, Result, sym, refl, ap, ◌∙◌, subst, ⊎_elim, arith}
use lib.Utf8.{encode}
use Rattle.std.specs.Str.{bytes_eq, chars}
use Rattle.std.proofs.lemmas.List.{append-nil, length-take}
use Rattle.std.proofs.lemmas.Bool.{cond-true, and_from, le-leb, cases_lt}
use Rattle.slices.specs.declared.name.Name.{Name}
use Rattle.packetline.specs.declared.encode.Error.{Error as Misuse}
use Rattle.packetline.specs.declared.encode.Error.TheVariants.{OutsideLimits}
use Rattle.packetline.specs.Lines.{after_prefix}
use Rattle.packetline.specs.Packets.{Pkt, flush, line, sendable, packet, packets, all_sendable}
use Rattle.packetline.specs.Text.{utf8, trim_end, text_of}
use Rattle.packetline.proofs.Pathnames.{pathname_pair}
use Rattle.host.specs.declared.fault.LineFault.{LineFault}
use Rattle.host.specs.declared.call.CallError.{CallError}
use Rattle.host.specs.declared.call.CallError.TheVariants.{Caller, Line}
use Rattle.host.specs.Calls.{Checked}
use Rattle.host.specs.Worlds.{Pipe, live, World, process}
use Rattle.host.specs.Talk.{Event, took, gave, noted, Later, Wire, wire, Got, then, send_all, read_text, Sight, Areas, areas, Talks}
use Rattle.host.proofs.Knowing.{talk_did}
use Rattle.process.specs.declared.status.Status.{Status}
use Rattle.process.specs.declared.status.Status.TheVariants.{Previous}
use Rattle.process.specs.Gather.{goes, stops, gather}
use Rattle.process.specs.Given.{have_room, TalksBy}
use Rattle.process.specs.Statuses.{named, status_step}
use Rattle.process.proofs.Gathers.{leaves_read_text}
use Rattle.requests.specs.Stored.{Request, and_pair, used}
use Rattle.requests.specs.Stored.{request as asked_request}
use Rattle.requests.specs.Requests.{with_meta}
use Rattle.requests.proofs.Holding.{used_push, space_there}
use Rattle.client.specs.declared.invoke.Meta.{Meta}
use Rattle.client.specs.Requests.{request, invoked, InvokeLaw, invoke_fault, content_then, status_then, as_first}
use Rattle.client.specs.Results.{payload, final, read_piece, final_then, as_final}
use Rattle.mirror.specs.Reflecting.{no_blobs, writing_packets, reflection}
use Rattle.mirror.specs.Stages.{idle, asking, hearing, Move, moves, stands, hears, asked_to}
use Rattle.mirror.proofs.Saying.{writing_none, writing_some}
use Rattle.mirror.specs.Worlds.{StandsAt}
use Rattle.mirrored.specs.Exchanged.{IsFilter, given_back, Asks}
use Rattle.mirrored.proofs.Coming.{Comes, Settled, settled, comes_done, comes_then, comes_sent, comes_more, comes_stop, prefix, at, says, reads_line, reads_flush, reads_text, reads_end}
use Rattle.mirrored.proofs.Shaking.{left_at}

-- a call that went as a talk that is settled
pub settled_did :
    {A : Type 0} {f : Wire → Got A} {w : Sight} {p : ℕ} {a : Areas} {r : Result A LineFault} {w' : Sight} {a' : Areas} (t : Talks f w p a r w' a') (q : Pipe) (x : A) (q' : Pipe)
    → process w.world p ≡ live q → Settled f q x q' → (r ≡ Ok x) × (process w'.world p ≡ live q')
settled_did {w = w} {p = p} t q x q' here s =
    let d = talk_did t here (Ok x) (live q') s.events (λ later. let c = s.comes later in (c.later, c.is)) in
    (d.0, ap (λ (v : World). process v p) d.1 ∙ left_at w.world p q (live q') here)

-- a call that its caller may make
pub checked_did :
    {A C : Type 0} (fault : Option C) (does : Result A LineFault → Type 0) (same : Type 0) (r : Result A (CallError C LineFault)) (x : A) (W : Type 0) → fault ≡ None → Checked fault does same r
    → ((y : Result A LineFault) → does y → (y ≡ Ok x) × W) → (r ≡ Ok x) × W
checked_did fault does same (Ok y) x W none h k = let d = k (Ok y) h.1 in let e = d.0 in let z : y ≡ x = cc in (ap Ok z, d.1)
checked_did fault does same (Err (Line e)) x W none h k = let d = k (Err e) h.1 in let i = d.0 in let z : ◌≡◌ {A = ℕ} 0 1 = cc in absurd (omega arith)
checked_did fault does same (Err (Caller c)) x W none h k = let i = sym none ∙ h.0 in let z : ◌≡◌ {A = ℕ} 0 1 = cc in absurd (omega arith)

-- what waits behind the status
abbrev behind : List ℕ → List Pkt
behind content = writing_packets content ++ flush ∷ []

behind_is : (content : List ℕ) → length content ≤ 65516 → behind content ≡ given_back content
behind_is [] h = ap (λ ps. ps ++ flush ∷ []) (writing_none [] refl)
behind_is (b ∷ content) h = ap (λ ps. ps ++ flush ∷ []) (writing_some (b ∷ content) (omega arith) h)

-- What the server does with the lines of a request

module _ (names : List Name) where
  hears_clean : hears prefix names idle (line (codes "command=clean")) ≡ stands (asking (asked_request (codes "clean") []))
  unfolding after_prefix utf8 trim_end chars encode
  hears_clean = refl

  hears_smudge : hears prefix names idle (line (codes "command=smudge")) ≡ stands (asking (asked_request (codes "smudge") []))
  unfolding after_prefix utf8 trim_end chars encode
  hears_smudge = refl

  hears_command : (c : List ℕ) → IsFilter c → hears prefix names idle (line (codes "command=" ++ c)) ≡ stands (asking (asked_request c []))
  hears_command c h =
      let P : List ℕ → Type 0 = λ x. hears prefix names idle (line (codes "command=" ++ x)) ≡ stands (asking (asked_request x [])) in
      ⊎_elim (λ (e : c ≡ codes "clean"). subst P (sym e) hears_clean) (λ (e : c ≡ codes "smudge"). subst P (sym e) hears_smudge) h

  short : (c : List ℕ) → IsFilter c → length c ≤ 6
  short c h = ⊎_elim (λ (e : c ≡ codes "clean"). omega (arith, ap length e)) (λ (e : c ≡ codes "smudge"). omega (arith, ap length e)) h

  -- the pathname finds space
  hears_path : (c path : List ℕ) → IsFilter c → length path ≤ 4096
      → (q : Request) × (q.command ≡ c) × (hears prefix names (asking (asked_request c [])) (line (codes "pathname=" ++ path)) ≡ stands (asking q))
  hears_path c path f h =
      let k = pathname_pair path in
      let q₀ = asked_request c [] in
      let x : List ℕ × List ℕ = (codes "pathname", take k.0 path) in
      let q = and_pair q₀ x in
      let s = short c f in
      let l = length-take k.0 path in
      let u₀ : used q₀ ≡ length c = ap length (append-nil c) in
      let u = used_push q₀ x in
      let space = space_there 16 8192 q₀ x (omega arith) (omega arith) in
      (q, refl, ap (λ o. asked_to (with_meta 16 8192 q₀ o)) k.1 ∙ ap (λ b. asked_to (cond b (goes q []) (stops (Err 7)))) space)

  -- of a request only the command counts when it ends
  ended_by : List ℕ → Move
  ended_by c =
      cond (bytes_eq c (codes "list_available_blobs")) (moves no_blobs idle) (stands (hearing (cond (bytes_eq c (codes "clean") || bytes_eq c (codes "smudge")) (Some []) None)))

  hears_end : (q : Request) (c : List ℕ) → q.command ≡ c → IsFilter c → hears prefix names (asking q) flush ≡ stands (hearing (Some []))
  unfolding ended_by
  hears_end q c e h =
      ap ended_by e ∙ ⊎_elim (λ (i : c ≡ codes "clean"). ap ended_by i) (λ (i : c ≡ codes "smudge"). ap ended_by i) h

  hears_content : (content : List ℕ) → length content ≤ 4096 → hears prefix names (hearing (Some [])) (line content) ≡ stands (hearing (Some content))
  hears_content content h = ap (λ o. stands (hearing o)) (cond-true (leb (length content) 4096) (Some content) None (le-leb (length content) 4096 h))

success_text : text_of (codes "status=success") ≡ Ok (codes "status=success")
unfolding utf8 trim_end chars encode
success_text = refl

success_step : status_step Previous (Some (codes "status=success")) ≡ goes (named (codes "success")) (noted (codes "success") ∷ [])
unfolding after_prefix
success_step = refl

-- The talks

module _ (names : List Name) where
  pub takes_content : (c : List ℕ) (n : ℕ) → sendable (line c) ≡ true → Settled read_piece (at names idle (packets (line c ∷ flush ∷ flush ∷ [])) n) (payload c) (at names idle (packets (flush ∷ flush ∷ [])) n)
  takes_content c n ok = settled (λ later. comes_then final_then (reads_line names idle c (flush ∷ flush ∷ []) n later [] ok) (λ la. comes_done (payload c) _ la _))

  pub takes_end : (n : ℕ) → Settled read_piece (at names idle (packets (flush ∷ flush ∷ [])) n) (final Previous) (at names idle [] n)
  takes_end n =
      settled (λ later.
      comes_then final_then (reads_flush names idle (flush ∷ []) n later []) (λ la.
      comes_then as_final (comes_stop read_text status_step leaves_read_text (reads_end names idle [] n la _) refl) (λ lb. comes_done (final Previous) _ lb _)))

-- a status that succeeds, which is the first of what waits
module _ (names : List Name) (content : List ℕ) (n : ℕ) (es : List Event) where
  abbrev status_packets_wait : List ℕ
  status_packets_wait = packets (reflection (Some content))

  told_success : (later : Later)
      → Comes (then (gather read_text status_step Previous (wire (live (at names idle status_packets_wait n)) later es)) as_first) (named (codes "success")) (at names idle (packets (behind content)) n)
      (gave (packet flush) ∷ (noted (codes "success") ∷ (gave (packet (line (codes "status=success"))) ∷ es)))
  told_success later =
      comes_then as_first
      (comes_more read_text status_step leaves_read_text (reads_text names idle (codes "status=success") _ (flush ∷ behind content) n later es refl success_text) success_step (λ la.
      comes_stop read_text status_step leaves_read_text (reads_end names idle (behind content) n la _) refl)) (λ lb.
      comes_done (named (codes "success")) _ lb _)

packet_long : (l : List ℕ) → length (packet (line l)) ≡ 4 + length l
packet_long l = omega arith

line_sendable : (l : List ℕ) → 0 < length l → length l ≤ 65516 → sendable (line l) ≡ true
line_sendable l some h = and_from (leb 1 (length l)) (leb (length l) 65516) (le-leb 1 (length l) some) (le-leb (length l) 65516 h)

module _ (names : List Name) (c path content : List ℕ) (ms : List Meta) (filter : IsFilter c) (small : length path ≤ 4096) (few : length content ≤ 4096) (n : ℕ) (room : 9000 ≤ n)
    (lines : request c ms ≡ line (codes "command=" ++ c) ∷ line (codes "pathname=" ++ path) ∷ flush ∷ []) where
  abbrev size₁ : ℕ
  size₁ = length (packet (line (codes "command=" ++ c)))

  abbrev size₂ : ℕ
  size₂ = length (packet (line (codes "pathname=" ++ path)))

  abbrev left : ℕ
  left = n - size₁ - size₂ - 4

  sizes : (size₁ ≤ 18) × (size₂ ≤ 4109)
  sizes =
      let a = packet_long (codes "command=" ++ c) in
      let b = packet_long (codes "pathname=" ++ path) in
      let s = short names c filter in
      (omega arith, omega arith)

  command_sendable : sendable (line (codes "command=" ++ c)) ≡ true
  command_sendable = let s = short names c filter in line_sendable (codes "command=" ++ c) (omega arith) (omega arith)

  path_sendable : sendable (line (codes "pathname=" ++ path)) ≡ true
  path_sendable = line_sendable (codes "pathname=" ++ path) (omega arith) (omega arith)

  pub may_ask : (work status : List ℕ) → have_room work status ≡ true → invoke_fault work status c ms ≡ None
  may_ask work status h =
      cond-true (have_room work status) _ _ h
      ∙ ap (λ ps. cond (all_sendable ps) None (Some OutsideLimits)) lines
      ∙ cond-true (sendable (line (codes "command=" ++ c)) && (sendable (line (codes "pathname=" ++ path)) && true)) _ _
      (and_from _ _ command_sendable (and_from _ _ path_sendable refl))

  -- the lines of the request
  asked : (later : Later) → Comes (send_all (request c ms) (wire (live (at names idle [] n)) later [])) tt (at names (hearing (Some [])) [] left) (took (packet flush) ∷ took (packet (line (codes "pathname=" ++ path))) ∷ took (packet (line (codes "command=" ++ c))) ∷ [])
  asked later =
      let s = sizes in
      let q = hears_path names c path filter small in
      comes_sent lines (wire (live (at names idle [] n)) later [])
      (comes_then _ (says names idle n (line (codes "command=" ++ c)) size₁ _ later [] command_sendable refl (omega arith) (hears_command names c filter)) (λ la.
      comes_then _ (says names _ (n - size₁) (line (codes "pathname=" ++ path)) size₂ _ la _ path_sendable refl (omega arith) q.2) (λ lb.
      comes_then _ (says names (asking q.0) (n - size₁ - size₂) flush 4 _ lb _ refl refl (omega arith) (hears_end names q.0 c q.1 filter)) (λ lc.
      comes_done tt _ lc _))))

  asks_some : 0 < length content → Settled (invoked c ms content) (at names idle [] n) (named (codes "success")) (at names idle (packets (behind content)) (left - length (packet (line content)) - 4))
  asks_some some =
      let s = sizes in
      let b = packet_long content in
      settled (λ later.
      comes_then (content_then content) (asked later) (λ l1.
      comes_then status_then
      (comes_sent (writing_some content some (omega arith)) _
      (comes_then _ (says names (hearing (Some [])) left (line content) (length (packet (line content))) _ l1 _ (line_sendable content some (omega arith)) refl (omega arith) (hears_content names content few)) (λ la.
      comes_then _ (says names (hearing (Some content)) (left - length (packet (line content))) flush 4 (moves (reflection (Some content)) idle) la _ refl refl (omega arith) refl) (λ lb.
      comes_done tt _ lb _)))) (λ l2.
      told_success names content _ _ l2)))

  asks_none : length content ≡ 0 → Settled (invoked c ms content) (at names idle [] n) (named (codes "success")) (at names idle (packets (behind content)) (left - 4))
  asks_none none =
      let s = sizes in
      let e : content ≡ [] = empty_is content none in
      settled (λ later.
      comes_then (content_then content) (asked later) (λ l1.
      comes_then status_then
      (comes_sent (writing_none content none) _
      (comes_then _ (says names (hearing (Some [])) left flush 4 (moves (reflection (Some content)) idle) l1 _ refl refl (omega arith) (ap (λ x. moves (reflection (Some x)) idle) (sym e))) (λ la.
      comes_done tt _ la _))) (λ l2.
      told_success names content _ _ l2)))
    where
      empty_is : (xs : List ℕ) → length xs ≡ 0 → xs ≡ []
      empty_is [] h = refl
      empty_is (x ∷ xs) h = absurd (omega arith)

  pub asks : (m : ℕ) × (n ≤ m + 9000) × Settled (invoked c ms content) (at names idle [] n) (named (codes "success")) (at names idle (packets (behind content)) m)
  asks =
      let s = sizes in
      let b = packet_long content in
      ⊎_elim
      (λ (h : 0 < length content). (left - length (packet (line content)) - 4, omega arith, asks_some h))
      (λ (h : length content ≤ 0). (left - 4, omega arith, asks_none (omega arith)))
      (cases_lt 0 (length content))

pub asks_so :
    (w : Sight) (p : ℕ) (work status : List ℕ) (c path content : List ℕ) (ms : List Meta) (w' : Sight) (work' status' : List ℕ) (same : Type 0) (r : Result Status (CallError Misuse LineFault))
    → Checked (invoke_fault work status c ms) (λ x. TalksBy (InvokeLaw c ms content) (invoked c ms content) w p (areas work status) x w' (areas work' status')) same r
    → request c ms ≡ line (codes "command=" ++ c) ∷ line (codes "pathname=" ++ path) ∷ flush ∷ [] → Asks w.world p work status c path content r w'.world
asks_so w p work status c path content ms w' work' status' same r h lines names n here filter small few room rooms =
    let a = asks names c path content ms filter small few n room lines in
    let does = λ (x : Result Status LineFault). TalksBy (InvokeLaw c ms content) (invoked c ms content) w p (areas work status) x w' (areas work' status') in
    let d =
    checked_did (invoke_fault work status c ms) does same r (named (codes "success")) (StandsAt w'.world p names idle (packets (behind content)) a.0)
    (may_ask names c path content ms filter small few n room lines work status rooms) h
    (λ y (t : does y). settled_did t.0 (at names idle [] n) (named (codes "success")) (at names idle (packets (behind content)) a.0) here a.2) in
    (d.0, (a.0, a.1, d.1 ∙ ap (λ ps. live (at names idle (packets ps) a.0)) (behind_is content (omega arith))))
