-- What each send and each read of a talk keeps, the talk keeps.
use Rattle.std.proofs.Common.{◌≡◌, ℕ, zero, suc, Bool, true, false, cond, List, [], ◌∷◌, ◌++◌, length, Some, None, Ok, Err, Option, Result, sym, subst, drop, refl, ap, ◌∙◌, arith}
use Rattle.std.proofs.lemmas.List.{append_assoc, append-nil, drop_at}
use Rattle.packetline.proofs.Exact.{reads_sent}
use Rattle.process.proofs.Passes.{PartedAt, parted_at}
use Rattle.packetline.specs.Packets.{Pkt, flush, delimiter, response_end, line, packet, Front, whole, bad, short, front}
use Rattle.packetline.specs.Lines.{kind_of}
use Rattle.packetline.specs.Text.{text_of}
use Rattle.slices.specs.declared.name.Name.{Name}
use Rattle.host.specs.declared.fault.Fault.{Fault}
use Rattle.host.specs.declared.fault.LineFault.{LineFault}
use Rattle.host.specs.Faults.{snag_fault}
use Rattle.host.specs.Worlds.{Reply, reply_of, Process, live, waiting_of, waiting_now, less, Pipe}
use Rattle.std.specs.Prelude.{nat_le}
use Rattle.host.specs.Acts.{some_wait, refusal_of, pipe_after, sent_to}
use Rattle.host.specs.Talk.{took, refused, noted, bytes_given, Later, Wire, wire, Got, got, lost, then, sent_by, send, send_all, heard, hear, read, wanted, read_content, texted, text_in, read_text}
use Rattle.process.specs.declared.status.Status.{Status}
use Rattle.process.specs.declared.status.Status.TheVariants.{Previous}
use Rattle.process.specs.Gather.{Turn, goes, stops, turned, gather_in, gather}
use Rattle.process.specs.Statuses.{status_in, noted_by, status_step, read_status}
use Rattle.handshake.specs.Judged.{if_right, read_judged}
use Rattle.handshake.specs.Handshakes.{hello, desired, welcomed, chosen, ended, with_line, names_turn, names_step, read_names, shaken, names_of, asks, flush_then, version_then, welcome_then, handshake}
use Rattle.client.specs.Requests.{content_packets, first_status, as_first, status_then, content_then}
use Rattle.client.specs.Listings.{list_request, lines_step, read_lines, lines_then, listing}
use Rattle.client.specs.Results.{as_final, final_then, read_piece}
use Rattle.rules.specs.Steps.{exchange, reply_to, course}

-- what holds of the process and the events after a talk that went through, and after one that was cut
abbrev pub Always : {A : Type 0} → (A → Wire → Type 0) → (LineFault → Wire → Type 0) → Got A → Type 0
Always P Q (got a v) = P a v
Always P Q (lost f v) = Q f v

pub then_always : {A B : Type 0} (P : A → Wire → Type 0) (Q : LineFault → Wire → Type 0) (R : B → Wire → Type 0) (g : Got A) (k : A → Wire → Got B)
    → Always P Q g → ((a : A) (v : Wire) → P a v → Always R Q (k a v)) → Always R Q (then g k)
then_always P Q R (got a v) k h on = on a v h
then_always P Q R (lost f v) k h on = h

pub weaken : {A : Type 0} (P P' : A → Wire → Type 0) (Q Q' : LineFault → Wire → Type 0) (g : Got A)
    → Always P Q g → ((a : A) (v : Wire) → P a v → P' a v) → ((f : LineFault) (v : Wire) → Q f v → Q' f v) → Always P' Q' g
weaken P P' Q Q' (got a v) h on off = on a v h
weaken P P' Q Q' (lost f v) h on off = off f v h

pub join : {A : Type 0} (P P' : A → Wire → Type 0) (Q Q' : LineFault → Wire → Type 0) (g : Got A)
    → Always P Q g → Always P' Q' g → Always (λ a v. P a v × P' a v) (λ f v. Q f v × Q' f v) g
join P P' Q Q' (got a v) h k = (h, k)
join P P' Q Q' (lost f v) h k = (h, k)

abbrev pub Kept : {A : Type 0} → (Wire → Type 0) → Got A → Type 0
Kept J g = Always (λ _ v. J v) (λ _ v. J v) g

-- a packet that is taken
abbrev pub Takes : (Wire → Type 0) → List ℕ → Type 0
Takes J b = (v : Wire) → refusal_of v.end (length b) ≡ Ok tt → J v → J (wire (sent_to v.end b (v.later 0)) (λ n. v.later (suc n)) (took b ∷ v.events))

abbrev pub AllTake : (Wire → Type 0) → List Pkt → Type 0
AllTake J [] = Unit {0}
AllTake J (p ∷ ps) = Takes J (packet p) × AllTake J ps

-- what is kept whatever is heard, noted or refused
pub record Steady (J : Wire → Type 0) : Type 0 where
  pub gives : (b rest : List ℕ) (v : Wire) → waiting_of v.end ≡ b ++ rest → J v → J (heard b rest v)
  pub notes : (s : List ℕ) (v : Wire) → J v → J (wire v.end v.later (noted s ∷ v.events))
  pub refuses : (b : List ℕ) (v : Wire) → J v → J (wire v.end v.later (refused b ∷ v.events))

module _ (J : Wire → Type 0) (k : Steady J) where
  pub then_kept : {A B : Type 0} (g : Got A) (f : A → Wire → Got B) → Kept J g → ((a : A) (v : Wire) → J v → Kept J (f a v)) → Kept J (then g f)
  then_kept g f h on = then_always (λ _ v. J v) (λ _ v. J v) (λ _ v. J v) g f h on

  sent_kept : (b : List ℕ) → Takes J b → (v : Wire) → J v → (r : Result (Unit {0}) Fault) → refusal_of v.end (length b) ≡ r → Kept J (sent_by r b v)
  sent_kept b t v j (Ok u) e = t v e j
  sent_kept b t v j (Err f) e = k.refuses b v j

  pub send_all_kept : (ps : List Pkt) → AllTake J ps → (v : Wire) → J v → Kept J (send_all ps v)
  send_all_kept [] t v j = j
  send_all_kept (p ∷ ps) t v j =
      then_kept (send p v) (λ _ u. send_all ps u) (sent_kept (packet p) t.0 v j (refusal_of v.end (length (packet p))) refl) (λ _ u j'. send_all_kept ps t.1 u j')

  hear_kept : (ws : List ℕ) (f : Front) → front ws ≡ f → (v : Wire) → waiting_of v.end ≡ ws → J v → Kept J (hear f v)
  hear_kept ws (whole p b rest) e v w j = k.gives b rest v (w ∙ ((reads_sent ws).only p b rest e).2) j
  hear_kept ws (bad b rest) e v w j = k.gives b rest v (w ∙ subst (PartedAt ws) e (parted_at ws)) j
  hear_kept ws short e v w j = k.gives (waiting_of v.end) [] v (sym (append-nil (waiting_of v.end))) j

  pub read_kept : (v : Wire) → J v → Kept J (read v)
  read_kept v j = hear_kept (waiting_of v.end) (front (waiting_of v.end)) refl v refl j

  wanted_kept : (p : Pkt) (v : Wire) → J v → Kept J (wanted p v)
  wanted_kept flush v j = j
  wanted_kept delimiter v j = j
  wanted_kept response_end v j = j
  wanted_kept (line l) v j = j

  pub content_kept : (v : Wire) → J v → Kept J (read_content v)
  content_kept v j = then_kept (read v) wanted (read_kept v j) wanted_kept

  texted_kept : (r : Result (List ℕ) ℕ) (v : Wire) → J v → Kept J (texted r v)
  texted_kept (Ok t) v j = j
  texted_kept (Err n) v j = j

  text_in_kept : (o : Option (List ℕ)) (v : Wire) → J v → Kept J (text_in o v)
  text_in_kept None v j = j
  text_in_kept (Some l) v j = texted_kept (text_of l) v j

  pub text_kept : (v : Wire) → J v → Kept J (read_text v)
  text_kept v j = then_kept (read_content v) text_in (content_kept v j) text_in_kept

  -- reading on
  abbrev Calm : {S A : Type 0} → Turn S A → Type 0
  Calm (goes s es) = (v : Wire) → J v → J (wire v.end v.later (es ++ v.events))
  Calm (stops a) = Unit {0}

  module _ {S X A : Type 0} (reader : Wire → Got X) (step : S → X → Turn S A) (reads : (v : Wire) → J v → Kept J (reader v)) (calm : (s : S) (x : X) → Calm (step s x)) where
    turned_kept : (more : S → Wire → Got A) → ((s : S) (v : Wire) → J v → Kept J (more s v)) → (c : Turn S A) → Calm c → (v : Wire) → J v → Kept J (turned more c v)
    turned_kept more on (goes s es) q v j = on s _ (q v j)
    turned_kept more on (stops a) q v j = j

    gather_in_kept : (n : ℕ) (s : S) (v : Wire) → J v → Kept J (gather_in reader step n s v)
    gather_in_kept zero s v j = j
    gather_in_kept (suc n) s v j =
        then_kept (reader v) (λ x u. turned (gather_in reader step n) (step s x) u) (reads v j)
        (λ x u j'. turned_kept (gather_in reader step n) (λ s' u' j''. gather_in_kept n s' u' j'') (step s x) (calm s x) u j')

    pub gather_kept : (s : S) (v : Wire) → J v → Kept J (gather reader step s v)
    unfolding gather
    gather_kept s v j = gather_in_kept (suc (length (waiting_of v.end))) s v j

  noted_calm : (o : Option (List ℕ)) (v : Wire) → J v → J (wire v.end v.later (noted_by o ++ v.events))
  noted_calm None v j = j
  noted_calm (Some s) v j = k.notes s v j

  status_calm : (s : Status) (x : Option (List ℕ)) → Calm (status_step s x)
  status_calm s None = tt
  status_calm s (Some t) = noted_calm (status_in (kind_of t))

  pub status_kept : (v : Wire) → J v → Kept J (read_status v)
  status_kept v j = gather_kept read_text status_step text_kept status_calm Previous v j

  first_kept : (v : Wire) → J v → Kept J (first_status v)
  first_kept v j = then_kept (read_status v) as_first (status_kept v j) (λ s u j'. j')

  pub exchange_kept : (lines : List Pkt) (content : List ℕ) → AllTake J lines → AllTake J (content_packets content) → (v : Wire) → J v → Kept J (exchange lines content v)
  exchange_kept lines content t t' v j =
      then_kept (send_all lines v) (content_then content) (send_all_kept lines t v j)
      (λ _ u j'. then_kept (send_all (content_packets content) u) status_then (send_all_kept (content_packets content) t' u j') (λ _ x j''. first_kept x j''))

  lines_calm : (s : Unit {0}) (p : Pkt) → Calm (lines_step s p)
  lines_calm s flush = tt
  lines_calm s delimiter = λ v j. j
  lines_calm s response_end = λ v j. j
  lines_calm s (line l) = λ v j. j

  pub listing_kept : AllTake J list_request → (v : Wire) → J v → Kept J (listing v)
  listing_kept t v j =
      then_kept (send_all list_request v) lines_then (send_all_kept list_request t v j)
      (λ _ u j'. then_kept (read_lines u) status_then (gather_kept read lines_step read_kept lines_calm tt u j') (λ _ x j''. first_kept x j''))

  final_kept : (o : Option (List ℕ)) (v : Wire) → J v → Kept J (final_then o v)
  final_kept None v j = then_kept (read_status v) as_final (status_kept v j) (λ s u j'. j')
  final_kept (Some l) v j = j

  pub piece_kept : (v : Wire) → J v → Kept J (read_piece v)
  piece_kept v j = then_kept (read_content v) final_then (content_kept v j) final_kept

  -- the handshake
  right_kept : {A B : Type 0} (f : A → Wire → Got (Result B ℕ)) → ((a : A) (v : Wire) → J v → Kept J (f a v)) → (r : Result A ℕ) (v : Wire) → J v → Kept J (if_right f r v)
  right_kept f on (Ok a) v j = on a v j
  right_kept f on (Err n) v j = j

  judged_kept : {A : Type 0} (judge : Option (List ℕ) → Result A ℕ) (v : Wire) → J v → Kept J (read_judged judge v)
  judged_kept judge v j = then_kept (read_text v) (λ t u. got (judge t) u) (text_kept v j) (λ t u j'. j')

  turn_calm : (r : Result ℕ ℕ) → Calm (names_turn r)
  turn_calm (Ok m) = λ v j. j
  turn_calm (Err n) = tt

  names_calm : (names : List Name) (m : ℕ) (x : Option (List ℕ)) → Calm (names_step names m x)
  names_calm names m None = tt
  names_calm names m (Some t) = turn_calm (with_line names m t)

  pub handshake_kept : (prefix versions : List ℕ) (names : List Name) → AllTake J (hello prefix versions) → AllTake J (desired names) → (v : Wire) → J v → Kept J (handshake prefix versions names v)
  handshake_kept prefix versions names t t' v j =
      then_kept (send_all (hello prefix versions) v) (welcome_then prefix versions names) (send_all_kept (hello prefix versions) t v j)
      (λ _ v₁ j₁. then_kept (read_judged (welcomed prefix) v₁) (if_right (version_then versions names)) (judged_kept (welcomed prefix) v₁ j₁)
      (right_kept (version_then versions names)
      (λ _ v₂ j₂. then_kept (read_judged (chosen versions) v₂) (if_right (flush_then names)) (judged_kept (chosen versions) v₂ j₂)
      (right_kept (flush_then names)
      (λ n v₃ j₃. then_kept (read_judged ended v₃) (if_right (asks names n)) (judged_kept ended v₃ j₃)
      (right_kept (asks names n)
      (λ _ v₄ j₄. then_kept (send_all (desired names) v₄) (names_of names n) (send_all_kept (desired names) t' v₄ j₄)
      (λ _ v₅ j₅. then_kept (read_names names v₅) (if_right (λ m u. got (Ok (shaken n m)) u)) (gather_kept read_text (names_step names) text_kept (names_calm names) 0 v₅ j₅)
      (right_kept (λ m u. got (Ok (shaken n m)) u) (λ m u j₆. j₆))))))))))

-- A process that is open stays open, and what it gave and what still waits is what waited and what its sends added.

abbrev pub Lives : Wire → Type 0
Lives v = (q : Pipe) × (v.end ≡ live q)

pub record Runs (x : Process) (l : Later) (v : Wire) : Type 0 where
  pub lives : Lives v
  pub at_end : (course x l v.events).process_then ≡ v.end
  pub left : (course x l v.events).later_then ≡ v.later
  pub whole : bytes_given v.events ++ waiting_of v.end ≡ waiting_of x ++ (course x l v.events).added

pub runs_first : (q : Pipe) (l : Later) → Runs (live q) l (wire (live q) l [])
runs_first q l = record { lives = (q, refl); at_end = refl; left = refl; whole = sym (append-nil q.waiting) }

waits_now : (x : Process) (q : Pipe) (rest : List ℕ) → x ≡ live q → waiting_of (waiting_now rest x) ≡ rest
waits_now x q rest e = ap (λ y. waiting_of (waiting_now rest y)) e

module _ (x : Process) (l : Later) where
  runs_gives : (b rest : List ℕ) (v : Wire) → waiting_of v.end ≡ b ++ rest → Runs x l v → Runs x l (heard b rest v)
  runs_gives b rest v e r = record {
    lives = (record r.lives.0 { waiting = rest }, ap (waiting_now rest) r.lives.1);
    at_end = ap (less (length b)) r.at_end ∙ ap (λ ws. waiting_now ws v.end) (ap (drop (length b)) e ∙ drop_at b rest (length b) refl);
    left = r.left;
    whole = ap (λ ws. (bytes_given v.events ++ b) ++ ws) (waits_now v.end r.lives.0 rest r.lives.1) ∙ append_assoc (bytes_given v.events) b rest
        ∙ ap (λ ws. bytes_given v.events ++ ws) (sym e) ∙ r.whole;
  }

  pub runs_steady : Steady (Runs x l)
  runs_steady = record {
    gives = runs_gives;
    notes = λ s v r. record { lives = r.lives; at_end = r.at_end; left = r.left; whole = r.whole };
    refuses = λ b v r. record { lives = r.lives; at_end = r.at_end; left = r.left; whole = r.whole };
  }

  -- a send that is taken
  allowed : (q : Pipe) (n : ℕ) (t : Bool) → ◌≡◌ {A = Result (Unit {0}) Fault} (cond t (Ok tt) (Err (snag_fault q.snag))) (Ok tt) → t ≡ true
  allowed q n true e = refl
  allowed q n false e = let z : ◌≡◌ {A = ℕ} 0 1 = cc in absurd (omega arith)

  taken_by : (y : Process) (q : Pipe) (b : List ℕ) (r : Reply) → y ≡ live q → refusal_of y (length b) ≡ Ok tt → sent_to y b r ≡ live (pipe_after q b r)
  taken_by y q b r e o =
      ap (λ z. sent_to z b r) e
      ∙ ap (λ t. cond t (live (pipe_after q b r)) (live q)) (allowed q (length b) (nat_le (length b) q.allowance) (ap (λ z. refusal_of z (length b)) (sym e) ∙ o))

  pub runs_take : (b : List ℕ) → Takes (Runs x l) b
  runs_take b v o r =
      let q = r.lives.0 in
      let now = taken_by v.end q b (v.later 0) r.lives.1 o in
      let reply : List ℕ = reply_of q.replies b (some_wait q.waiting) in
      let c = course x l v.events in
      record {
        lives = (pipe_after q b (v.later 0), now);
        at_end = ap (λ y. sent_to y b (c.later_then 0)) r.at_end ∙ ap (λ m. sent_to v.end b (m 0)) r.left;
        left = ap (λ m n. m (suc n)) r.left;
        whole = ap (λ y. bytes_given v.events ++ waiting_of y) now
            ∙ sym (append_assoc (bytes_given v.events) q.waiting reply)
            ∙ ap (λ ws. (bytes_given v.events ++ ws) ++ reply) (sym (ap waiting_of r.lives.1))
            ∙ ap (λ ws. ws ++ reply) r.whole
            ∙ append_assoc (waiting_of x) c.added reply
            ∙ ap (λ y. waiting_of x ++ (c.added ++ reply_to y b)) (sym (r.at_end ∙ r.lives.1));
      }

  pub runs_all : (ps : List Pkt) → AllTake (Runs x l) ps
  runs_all [] = tt
  runs_all (p ∷ ps) = (runs_take (packet p), runs_all ps)
