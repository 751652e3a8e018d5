-- What packets lead to, as far as they decide it, and how that gives the law of a request.
use Rattle.std.proofs.Common.{◌≡◌, ℕ, ◌<◌, ◌≤◌, true, cond, leb, ◌⊎◌, List, [], ◌∷◌, ◌++◌, map, length, Some, None, Ok, Err, codes, Option, Result, sym, refl, ap, ◌∙◌, subst, ⊎_elim, arith}
use Rattle.std.proofs.lemmas.List.{append-nil, append_assoc, length-append}
use Rattle.std.proofs.lemmas.Bool.{cond-true, cond-false, le-leb, lt-leb}
use Rattle.packetline.specs.Lines.{after_prefix, NotAfter}
use Rattle.packetline.specs.Metadata.{trim_both, IsPair}
use Rattle.packetline.specs.Packets.{Pkt, flush, delimiter, response_end, line, Decoded, decode}
use Rattle.packetline.specs.Text.{utf8, trim_end, text_of}
use Rattle.packetline.specs.declared.text.Error.TheVariants.{NotUtf8}
use Rattle.packetline.proofs.Pairs.{pair_is}
use Rattle.host.specs.declared.fault.LineFault.{LineFault}
use Rattle.host.specs.declared.fault.LineFault.TheVariants.{Text}
use Rattle.process.specs.Gather.{Turn, goes, stops}
use Rattle.process.specs.Given.{ReadsAs}
use Rattle.process.proofs.LineKinds.{After, after_law, after_append}
use Rattle.requests.specs.Stored.{Pair, Request, request, and_pair, meta_bytes, used, has_space}
use Rattle.requests.specs.Requests.{with_command, command_in, with_meta, meta_step, AreMeta, CommandIs, Begins, Asks, NoSpace, GivesMarker, GivesNoCommand, GivesNoPair, GivesTooMuch, RequestLaw}
use Rattle.requests.proofs.Holding.{used_more, space_there, space_not}

abbrev pub Outcome : Type 0
Outcome = Result (Result (Option (List ℕ)) ℕ) LineFault

-- what a first packet comes to
abbrev pub judged_text : ℕ → Result (List ℕ) ℕ → Outcome
judged_text room (Ok t) = Ok (command_in room (Some t))
judged_text room (Err n) = Err (Text NotUtf8)

abbrev pub judged : ℕ → Pkt → Outcome
judged room flush = Ok (command_in room None)
judged room delimiter = Ok (Ok None)
judged room response_end = Ok (Ok None)
judged room (line l) = judged_text room (text_of l)

abbrev pub Verdict : Type 0
Verdict = Result (Option Request) ℕ

abbrev pub turned_lead : Turn Request Verdict → (Request → Option Verdict) → Option Verdict
turned_lead (goes q es) more = more q
turned_lead (stops b) more = Some b

-- what packets of metadata lead to, behind what was asked before
abbrev pub leads_meta : ℕ → ℕ → Request → List Pkt → Option Verdict
leads_meta rows room q [] = None
leads_meta rows room q (p ∷ ps) = turned_lead (meta_step rows room q p) (λ x. leads_meta rows room x ps)

abbrev pub lead_by : ℕ → ℕ → Outcome → List Pkt → Option Verdict
lead_by rows room (Ok (Ok (Some c))) ps = leads_meta rows room (request c []) ps
lead_by rows room (Ok (Ok None)) ps = Some (Ok None)
lead_by rows room (Ok (Err n)) ps = Some (Err n)
lead_by rows room (Err f) ps = None

-- what packets lead to
abbrev pub leads : ℕ → ℕ → List Pkt → Option Verdict
leads rows room [] = None
leads rows room (p ∷ ps) = lead_by rows room (judged room p) ps

module _ (rows room : ℕ) (given : List ℕ) where
  abbrev lead : Option Verdict
  lead = leads rows room (decode given).packets

  -- an answer is what was given leads to; where nothing is asked less than a packet may have been given
  abbrev pub Led : Result Verdict LineFault → Type 0
  Led (Ok (Ok None)) = (leads rows room (decode given).packets ≡ None) ⊎ (leads rows room (decode given).packets ≡ Some (Ok None))
  Led (Ok (Ok (Some q))) = leads rows room (decode given).packets ≡ Some (Ok (Some q))
  Led (Ok (Err n)) = leads rows room (decode given).packets ≡ Some (Err n)
  Led (Err f) = leads rows room (decode given).packets ≡ None

  no_lead : (b : Verdict) → ◌≡◌ {A = Option Verdict} None (Some b) → ⊥
  no_lead b e = let z : ◌≡◌ {A = ℕ} 0 1 = cc in omega arith

  same_lead : (x b : Verdict) → Some x ≡ Some b → ◌≡◌ {A = Result Verdict LineFault} (Ok x) (Ok b)
  same_lead x b e = let h : x ≡ b = cc in ap (λ y. Ok y) h

  -- so what leads to an answer is answered so
  led_all : (b : Verdict) → lead ≡ Some b → (r : Result Verdict LineFault) → Led r → r ≡ Ok b
  led_all b e (Ok (Ok None)) h =
      ⊎_elim (λ (k : lead ≡ None). absurd (no_lead b (sym k ∙ e))) (λ (k : lead ≡ Some (Ok None)). same_lead (Ok None) b (sym k ∙ e)) h
  led_all b e (Ok (Ok (Some q))) h = same_lead (Ok (Some q)) b (sym h ∙ e)
  led_all b e (Ok (Err n)) h = same_lead (Err n) b (sym h ∙ e)
  led_all b e (Err f) h = absurd (no_lead b (sym h ∙ e))

  -- what an answer means
  abbrev pub Means : Result Verdict LineFault → Type 0
  Means (Ok (Ok None)) = GivesMarker given ⊎ ((decode given).packets ≡ [])
  Means (Ok (Ok (Some q))) = Asks rows room given q
  Means (Ok (Err n)) = ((n ≡ 39) × GivesNoCommand given) ⊎ (((n ≡ 40) × GivesNoPair rows room given) ⊎ ((n ≡ 7) × GivesTooMuch rows room given))
  Means (Err f) = Unit {0}

  -- What words lead to

  lead_at : (ps : List Pkt) → ReadsAs given ps → lead ≡ leads rows room ps
  lead_at ps e = ap (λ (d : Decoded). leads rows room d.packets) e

  text_judged : (l : List ℕ) → utf8 l ≡ true → judged room (line l) ≡ Ok (command_in room (Some (trim_end l)))
  text_judged l h = ap (judged_text room) (cond-true (utf8 l) (Ok (trim_end l)) (Err 22) h)

  command_judged : (l c : List ℕ) → CommandIs l c → judged room (line l) ≡ Ok (with_command room (Some c))
  command_judged l c k =
      text_judged l k.text ∙ ap (λ t. Ok (with_command room (after_prefix (codes "command=") t))) k.spells
      ∙ ap (λ o. Ok (with_command room o)) (after_append (codes "command=") c)

  with_room : (c : List ℕ) → length c ≤ room → with_command room (Some c) ≡ Ok (Some c)
  with_room c h = cond-true (leb (length c) room) (Ok (Some c)) (Err 7) (le-leb (length c) room h)

  without_room : (c : List ℕ) → room < length c → with_command room (Some c) ≡ Err 7
  without_room c h = cond-false (leb (length c) room) (Ok (Some c)) (Err 7) (lt-leb (length c) room h)

  after_none : (p bs : List ℕ) → NotAfter bs p → after_prefix p bs ≡ None
  after_none p bs h = none (after_prefix p bs) (after_law p bs)
    where
      none : (o : Option (List ℕ)) → After p bs o → o ≡ None
      none None k = refl
      none (Some r) k = absurd (h r (sym k))

  pair_step : (q : Request) (l : List ℕ) (p : Pair) → IsPair (trim_both l) (Some p) → meta_step rows room q (line l) ≡ cond (has_space rows room q p) (goes (and_pair q p) []) (stops (Err 7))
  pair_step q l p h = ap (with_meta rows room q) (sym (pair_is (trim_both l) (Some p) h))

  -- lines of metadata that find space lead on
  lines_lead : (ls : List (List ℕ)) (ps : List Pair) (q : Request) (more : List Pkt) → AreMeta ls ps → length (q.pairs ++ ps) ≤ rows → used (request q.command (q.pairs ++ ps)) ≤ room
      → leads_meta rows room q (map line ls ++ more) ≡ leads_meta rows room (request q.command (q.pairs ++ ps)) more
  lines_lead [] [] q more h r u = ap (λ (xs : List Pair). leads_meta rows room (request q.command xs) more) (sym (append-nil q.pairs))
  lines_lead [] (p ∷ ps) q more h r u = absurd h
  lines_lead (l ∷ ls) [] q more h r u = absurd h
  lines_lead (l ∷ ls) (p ∷ ps) q more h r u =
      let regroup : (q.pairs ++ p ∷ []) ++ ps ≡ q.pairs ++ p ∷ ps = append_assoc q.pairs (p ∷ []) ps in
      let long = length-append q.pairs (p ∷ ps) in
      let wide = used_more q.command (q.pairs ++ p ∷ []) ps in
      let same : used (request q.command ((q.pairs ++ p ∷ []) ++ ps)) ≡ used (request q.command (q.pairs ++ p ∷ ps)) = ap (λ (xs : List Pair). used (request q.command xs)) regroup in
      let row : length q.pairs < rows = omega arith in
      let fits : used (and_pair q p) ≤ room = omega arith in
      let step : meta_step rows room q (line l) ≡ goes (and_pair q p) [] =
      pair_step q l p h.0 ∙ cond-true (has_space rows room q p) (goes (and_pair q p) []) (stops (Err 7)) (space_there rows room q p row fits) in
      ap (λ c. turned_lead c (λ x. leads_meta rows room x (map line ls ++ more))) step
      ∙ lines_lead ls ps (and_pair q p) more h.1 (subst (λ (xs : List Pair). length xs ≤ rows) (sym regroup) r) (subst (λ (xs : List Pair). used (request q.command xs) ≤ room) (sym regroup) u)
      ∙ ap (λ (xs : List Pair). leads_meta rows room (request q.command xs) more) regroup

  begins_lead : (q : Request) (x : Pkt) → Begins rows room given q x → lead ≡ turned_lead (meta_step rows room q x) (λ y. None)
  begins_lead q x b =
      let long = length-append q.command (meta_bytes q.pairs) in
      let fits : length q.command ≤ room = let u = b.room_for in omega arith in
      lead_at _ b.are
      ∙ ap (λ o. lead_by rows room o (map line b.lines ++ x ∷ [])) (command_judged b.first q.command b.commands ∙ ap (λ o. Ok o) (with_room q.command fits))
      ∙ lines_lead b.lines q.pairs (request q.command []) (x ∷ []) b.metadata b.rows_for b.room_for

  asks_lead : (q : Request) → Asks rows room given q → lead ≡ Some (Ok (Some q))
  asks_lead q a = begins_lead q flush a

  marker_lead : GivesMarker given → lead ≡ Some (Ok None)
  marker_lead m = ⊎_elim (λ (h : ReadsAs given (delimiter ∷ [])). lead_at (delimiter ∷ []) h) (λ (h : ReadsAs given (response_end ∷ [])). lead_at (response_end ∷ []) h) m

  no_command_lead : GivesNoCommand given → lead ≡ Some (Err 39)
  no_command_lead m =
      ⊎_elim
      (λ (h : ReadsAs given (flush ∷ [])). lead_at (flush ∷ []) h)
      (λ (h : (l : List ℕ) × ReadsAs given (line l ∷ []) × (utf8 l ≡ true) × NotAfter (trim_end l) (codes "command=")).
      lead_at (line h.0 ∷ []) h.1
      ∙ ap (λ o. lead_by rows room o []) (text_judged h.0 h.2 ∙ ap (λ o. Ok (with_command room o)) (after_none (codes "command=") (trim_end h.0) h.3)))
      m

  no_pair_lead : GivesNoPair rows room given → lead ≡ Some (Err 40)
  no_pair_lead (q, m) =
      ⊎_elim
      (λ (h : Begins rows room given q delimiter). begins_lead q delimiter h)
      (λ (k : Begins rows room given q response_end ⊎ ((l : List ℕ) × Begins rows room given q (line l) × IsPair (trim_both l) None)).
      ⊎_elim
      (λ (h : Begins rows room given q response_end). begins_lead q response_end h)
      (λ (h : (l : List ℕ) × Begins rows room given q (line l) × IsPair (trim_both l) None).
      begins_lead q (line h.0) h.1 ∙ ap (λ o. turned_lead (with_meta rows room q o) (λ y. None)) (sym (pair_is (trim_both h.0) None h.2)))
      k)
      m

  too_much_lead : GivesTooMuch rows room given → lead ≡ Some (Err 7)
  too_much_lead m =
      ⊎_elim
      (λ (h : (l : List ℕ) × (c : List ℕ) × ReadsAs given (line l ∷ []) × CommandIs l c × (room < length c)).
      lead_at (line h.0 ∷ []) h.2 ∙ ap (λ o. lead_by rows room o []) (command_judged h.0 h.1 h.3 ∙ ap (λ o. Ok o) (without_room h.1 h.4)))
      (λ (h : (q : Request) × (l : List ℕ) × (p : Pair) × Begins rows room given q (line l) × IsPair (trim_both l) (Some p) × NoSpace rows room q p).
      begins_lead h.0 (line h.1) h.3
      ∙ ap (λ c. turned_lead c (λ y. None))
      (pair_step h.0 h.1 h.2 h.4 ∙ cond-false (has_space rows room h.0 h.2) (goes (and_pair h.0 h.2) []) (stops (Err 7)) (space_not rows room h.0 h.2 h.5)))
      m

  -- an answer that what was given leads to, and that means what it must, has the law
  pub law_by : (sent : List ℕ) (r : Result Verdict LineFault) → sent ≡ [] → Led r → Means r → RequestLaw rows room sent given r
  law_by sent r silent led means =
      record {
        silent = silent;
        only = λ q e. subst Means e means;
        all = λ q a. led_all (Ok (Some q)) (asks_lead q a) r led;
        none = λ e. subst Means e means;
        all_markers = λ m. led_all (Ok None) (marker_lead m) r led;
        no_command = (λ e. is_no_command (subst Means e means), λ m. led_all (Err 39) (no_command_lead m) r led);
        no_pair = (λ e. is_no_pair (subst Means e means), λ m. led_all (Err 40) (no_pair_lead m) r led);
        too_much = (λ e. is_too_much (subst Means e means), λ m. led_all (Err 7) (too_much_lead m) r led);
      }
    where
      is_no_command : Means (Ok (Err 39)) → GivesNoCommand given
      is_no_command m =
          ⊎_elim (λ (h : (39 ≡ 39) × GivesNoCommand given). h.1)
          (λ (k : ((39 ≡ 40) × GivesNoPair rows room given) ⊎ ((39 ≡ 7) × GivesTooMuch rows room given)).
          ⊎_elim (λ (h : (39 ≡ 40) × GivesNoPair rows room given). absurd (let e = h.0 in omega arith)) (λ (h : (39 ≡ 7) × GivesTooMuch rows room given). absurd (let e = h.0 in omega arith)) k) m

      is_no_pair : Means (Ok (Err 40)) → GivesNoPair rows room given
      is_no_pair m =
          ⊎_elim (λ (h : (40 ≡ 39) × GivesNoCommand given). absurd (let e = h.0 in omega arith))
          (λ (k : ((40 ≡ 40) × GivesNoPair rows room given) ⊎ ((40 ≡ 7) × GivesTooMuch rows room given)).
          ⊎_elim (λ (h : (40 ≡ 40) × GivesNoPair rows room given). h.1) (λ (h : (40 ≡ 7) × GivesTooMuch rows room given). absurd (let e = h.0 in omega arith)) k) m

      is_too_much : Means (Ok (Err 7)) → GivesTooMuch rows room given
      is_too_much m =
          ⊎_elim (λ (h : (7 ≡ 39) × GivesNoCommand given). absurd (let e = h.0 in omega arith))
          (λ (k : ((7 ≡ 40) × GivesNoPair rows room given) ⊎ ((7 ≡ 7) × GivesTooMuch rows room given)).
          ⊎_elim (λ (h : (7 ≡ 40) × GivesNoPair rows room given). absurd (let e = h.0 in omega arith)) (λ (h : (7 ≡ 7) × GivesTooMuch rows room given). h.1) k) m
