-- What a server's handshake means, from the packets that pass.
use Rattle.std.proofs.Common.{◌≡◌, ℕ, ◌+◌, ◌≤◌, Bool, true, false, cond, ltb, ◌&&◌, ◌⊎◌, List, [], ◌∷◌, ◌++◌, map, length, Some, None, Ok, Err, codes, Option, Result, sym, refl, ap, ◌∙◌, subst, inl, inr, ⊎_elim, arith}
use Rattle.std.proofs.lemmas.List.{append_assoc, append-nil}
use Rattle.std.proofs.lemmas.Bool.{ltb-true}
use Rattle.slices.specs.declared.name.Name.{Name}
use Rattle.packetline.specs.Packets.{Pkt, flush, line, Decoded, decode, packets, flushes_of}
use Rattle.packetline.specs.Lines.{kind_of}
use Rattle.packetline.specs.Text.{utf8, trim_end}
use Rattle.host.specs.declared.fault.LineFault.{LineFault}
use Rattle.host.specs.Talk.{bytes_sent, bytes_given, Areas, Wire, Got, send_all, read_text, Sight, Talks}
use Rattle.process.specs.Given.{ReadsAs, all_text}
use Rattle.process.proofs.Passes.{Passes, part_passes, part_less, AText, text_passes, quiet_none, Turns, gather_passes, Told, told_by_talk}
use Rattle.process.proofs.Tellings.{map_push, text_push, text_silent, flushes_append, lines_flushes, lines_same}
use Rattle.handshake.specs.Judged.{version_in, capability_in, if_right, read_judged}
use Rattle.handshake.specs.Servers.{hailed, with_version, versions_turn, versions_step, picked, with_shared, shared_after, shared_of, shared_step, answers, shares, read_versions, read_shared, Met, met, meets, shares_then, shared_then, answers_then, pick_then, versions_then, served, Offers, SharedBy, Heard, ServedLaw}
use Rattle.handshake.proofs.Prefixes.{greets_role, version_digits, digits_version}
use Rattle.handshake.proofs.VersionsLoop.{Each, OfferLines, offer_push, offer_none}
use Rattle.handshake.proofs.Sharings.{shared_means}
use Rattle.handshake.proofs.Shakes.{From, from_then, from_got, from_start, judged_passes}

-- Versions

record OfferEnd (rows : ℕ) (hs : List Pkt) (vs : List ℕ) : Type 0 where
  lines : List (List ℕ)
  are : hs ≡ map line lines ++ flush ∷ []
  each : Each lines vs
  room : length vs ≤ rows

abbrev OffersRead : ℕ → List Pkt → Result (List ℕ) ℕ → Type 0
OffersRead rows hs (Ok vs) = OfferEnd rows hs vs
OffersRead rows hs (Err n) = flushes_of hs ≡ 0

offers_quiet : (rows : ℕ) (hs gs : List Pkt) (vs : List ℕ) → OfferLines rows hs vs → flushes_of gs ≡ 0 → flushes_of (hs ++ gs) ≡ 0
offers_quiet rows hs gs vs i z = let a = flushes_append hs gs in let b = ap flushes_of i.are ∙ lines_flushes i.lines in omega arith

module _ (rows : ℕ) (hs gs ss : List Pkt) (vs : List ℕ) (t : List ℕ) (i : OfferLines rows hs vs) (h : AText gs ss (Some t)) where
  version_room : (v : ℕ) → version_in (Some t) ≡ Some v → (b : Bool) → ltb (length vs) rows ≡ b → Turns (OfferLines rows) (OffersRead rows) (hs ++ gs) (versions_turn (cond b (Ok (vs ++ v ∷ [])) (Err 7)))
  version_room v e true r =
      (quiet_none, subst (λ xs. OfferLines rows (hs ++ xs) (vs ++ v ∷ [])) (sym h.1) (offer_push hs vs h.0 v i h.2 (ap (λ x. version_in (Some x)) h.3 ∙ e) (ltb-true (length vs) rows r)))
  version_room v e false r = offers_quiet rows hs gs vs i (ap flushes_of h.1)

  version_turn : (o : Option ℕ) → version_in (Some t) ≡ o → Turns (OfferLines rows) (OffersRead rows) (hs ++ gs) (versions_turn (with_version rows vs o))
  version_turn None e = offers_quiet rows hs gs vs i (ap flushes_of h.1)
  version_turn (Some v) e = version_room v e (ltb (length vs) rows) refl

versions_turns : (rows : ℕ) (hs gs ss : List Pkt) (vs : List ℕ) (x : Option (List ℕ)) → OfferLines rows hs vs → AText gs ss x → Turns (OfferLines rows) (OffersRead rows) (hs ++ gs) (versions_step rows vs x)
versions_turns rows hs gs ss vs None i h = record { lines = i.lines; are = ap (λ xs. xs ++ gs) i.are ∙ ap (λ xs. map line i.lines ++ xs) h.0; each = i.each; room = i.room }
versions_turns rows hs gs ss vs (Some t) i h = version_turn rows hs gs ss vs t i h (version_in (Some t)) refl

versions_passes : (rows : ℕ) (v : Wire) → Passes (λ gs ss r. (ss ≡ []) × OffersRead rows gs r) (λ gs ss. (ss ≡ []) × (flushes_of gs ≡ 0)) v (read_versions rows v)
versions_passes rows v =
    gather_passes read_text (versions_step rows) text_passes text_silent (OfferLines rows) (OffersRead rows) (λ gs. flushes_of gs ≡ 0) (versions_turns rows) (offers_quiet rows) [] v (offer_none rows)

-- Names

after_push : (names : List Name) (ks : List ℕ) (ts : List (List ℕ)) (t : List ℕ) → shared_after names ks (ts ++ t ∷ []) ≡ with_shared names (shared_after names ks ts) (capability_in (kind_of t))
after_push names ks [] t = refl
after_push names ks (x ∷ ts) t = after_push names (with_shared names ks (capability_in (kind_of x))) ts t

module _ (names : List Name) where
  record SharedLines (hs : List Pkt) (ks : List ℕ) : Type 0 where
    lines : List (List ℕ)
    are : hs ≡ map line lines
    texts : all_text lines ≡ true
    value : ks ≡ shared_of names (map trim_end lines)

  record SharedEnd (hs : List Pkt) (ks : List ℕ) : Type 0 where
    lines : List (List ℕ)
    are : hs ≡ map line lines ++ flush ∷ []
    texts : all_text lines ≡ true
    value : ks ≡ shared_of names (map trim_end lines)

  shared_quiet : (hs gs : List Pkt) (ks : List ℕ) → SharedLines hs ks → flushes_of gs ≡ 0 → flushes_of (hs ++ gs) ≡ 0
  shared_quiet hs gs ks i z = let a = flushes_append hs gs in let b = ap flushes_of i.are ∙ lines_flushes i.lines in omega arith

  shared_turns : (hs gs ss : List Pkt) (ks : List ℕ) (x : Option (List ℕ)) → SharedLines hs ks → AText gs ss x → Turns SharedLines SharedEnd (hs ++ gs) (shared_step names ks x)
  shared_turns hs gs ss ks None i h = record { lines = i.lines; are = ap (λ xs. xs ++ gs) i.are ∙ ap (λ xs. map line i.lines ++ xs) h.0; texts = i.texts; value = i.value }
  shared_turns hs gs ss ks (Some t) i h =
      let l = h.0 in
      let ts = map trim_end i.lines in (
        quiet_none,
        record {
          lines = i.lines ++ l ∷ [];
          are = ap (λ xs. xs ++ gs) i.are ∙ ap (λ xs. map line i.lines ++ xs) h.1 ∙ sym (map_push line i.lines l);
          texts = text_push i.lines l i.texts h.2;
          value = ap (λ x. with_shared names x (capability_in (kind_of t))) i.value ∙ sym (after_push names [] ts t) ∙ ap (shared_of names) (sym (map_push trim_end i.lines l ∙ ap (λ x. ts ++ x ∷ []) h.3));
        },
      )

  shared_passes : (v : Wire) → Passes (λ gs ss ks. (ss ≡ []) × SharedEnd gs ks) (λ gs ss. (ss ≡ []) × (flushes_of gs ≡ 0)) v (read_shared names v)
  shared_passes v =
      gather_passes read_text (shared_step names) text_passes text_silent SharedLines SharedEnd (λ gs. flushes_of gs ≡ 0) shared_turns shared_quiet [] v
      (record { lines = []; are = refl; texts = refl; value = refl })

-- The handshake

few_more : (gs hs : List Pkt) (n k : ℕ) → flushes_of gs ≡ n → flushes_of hs ≤ k → n + k ≤ 1 → flushes_of (gs ++ hs) ≤ 1
few_more gs hs n k a b c = let d = flushes_append gs hs in omega arith

module _ (prefix : List ℕ) (rows : ℕ) (choice : List ℕ → Option ℕ) (names : List Name) where
  -- the packets that a server must hear
  record HeardBy (gs : List Pkt) (v : ℕ) (ks : List ℕ) : Type 0 where
    welcome : List ℕ
    offers : List (List ℕ)
    lines : List (List ℕ)
    are : gs ≡ line welcome ∷ (map line offers ++ flush ∷ (map line lines ++ flush ∷ []))
    text : utf8 welcome ≡ true
    texts : all_text lines ≡ true
    greets : hailed prefix (Some (trim_end welcome)) ≡ Ok tt
    versions : List ℕ
    each : Each offers versions
    room : length versions ≤ rows
    chooses : choice versions ≡ Some v
    value : ks ≡ shared_of names (map trim_end lines)

  all_said : ℕ → List ℕ → List Pkt
  all_said v ks = answers prefix v ++ shares names ks

  abbrev ServedP : List Pkt → List Pkt → Result Met ℕ → Type 0
  ServedP gs ss (Ok x) = (ss ≡ answers prefix x.version ++ shares names x.shared) × HeardBy gs x.version x.shared
  ServedP gs ss (Err n) = flushes_of gs ≤ 1

  abbrev ServedQ : List Pkt → List Pkt → Type 0
  ServedQ gs ss =
      (flushes_of gs ≤ 1) ⊎ ((v : ℕ) × ((ks : List ℕ) × (HeardBy gs v ks × ((x : Pkt) × ((rest : List Pkt) × (answers prefix v ++ shares names ks ≡ ss ++ x ∷ rest))))))

  abbrev Here : List Pkt → List Pkt → Wire → Got (Result Met ℕ) → Type 0
  Here gs ss u g = From ServedP ServedQ gs ss u g

  -- from the end on: what is left to say
  shares_here : (gs ss : List Pkt) (v : ℕ) (ks : List ℕ) → HeardBy gs v ks → ss ≡ answers prefix v → (u : Wire) → Here gs ss u (shares_then names v ks u)
  shares_here gs ss v ks heard said u =
      from_then ServedP ServedQ gs ss (meets v ks) u (send_all (shares names ks) u) (part_passes (shares names ks) u)
      (λ hs ts a x h.
      from_got ServedP ServedQ (gs ++ hs) (ss ++ ts) (Ok (met v ks)) x
      (ap (λ xs. xs ++ ts) said ∙ ap (λ xs. answers prefix v ++ xs) h.1, subst (λ xs. HeardBy xs v ks) (sym (ap (λ xs. gs ++ xs) h.0 ∙ append-nil gs)) heard))
      (λ hs ts h.
      inr (
        v,
        (
          ks,
          (
            subst (λ xs. HeardBy xs v ks) (sym (ap (λ xs. gs ++ xs) h.0 ∙ append-nil gs)) heard,
            (h.1.0, (h.1.1.0, ap (λ xs. answers prefix v ++ xs) h.1.1.1 ∙ ap (λ xs. xs ++ (ts ++ h.1.0 ∷ h.1.1.0)) (sym said) ∙ sym (append_assoc ss ts (h.1.0 ∷ h.1.1.0)))),
          ),
        ),
      ))

  module _ (w : List ℕ) (text : utf8 w ≡ true) (greets : hailed prefix (Some (trim_end w)) ≡ Ok tt) where
    module _ (vs : List ℕ) (os : List (List ℕ)) (each : Each os vs) (room : length vs ≤ rows) (v : ℕ) (chooses : choice vs ≡ Some v) (gs ss : List Pkt) (given : gs ≡ line w ∷ (map line os ++ flush ∷ [])) where
      one : flushes_of gs ≡ 1
      one = ap flushes_of given ∙ (let a = flushes_append (map line os) (flush ∷ []) in let b = lines_flushes os in let c : flushes_of (flush ∷ []) ≡ 1 = refl in omega arith)

      shared_here : ss ≡ answers prefix v → (u : Wire) → Here gs ss u (shared_then names v tt u)
      shared_here said u =
          from_then ServedP ServedQ gs ss (shares_then names v) u (read_shared names u) (shared_passes names u)
          (λ hs ts ks x h.
          shares_here (gs ++ hs) (ss ++ ts) v ks
          (record {
            welcome = w;
            offers = os;
            lines = h.1.lines;
            are = ap (λ xs. xs ++ hs) given ∙ ap (λ xs. line w ∷ xs) (append_assoc (map line os) (flush ∷ []) hs ∙ ap (λ xs. map line os ++ flush ∷ xs) h.1.are);
            text = text;
            texts = h.1.texts;
            greets = greets;
            versions = vs;
            each = each;
            room = room;
            chooses = chooses;
            value = h.1.value;
          })
          (ap (λ xs. ss ++ xs) h.0 ∙ append-nil ss ∙ said) x)
          (λ hs ts h. inl (few_more gs hs 1 0 one (omega (arith, h.1)) (omega arith)))

    answers_here : (vs : List ℕ) (os : List (List ℕ)) → Each os vs → length vs ≤ rows → (v : ℕ) → choice vs ≡ Some v → (gs ss : List Pkt) → gs ≡ line w ∷ (map line os ++ flush ∷ []) → ss ≡ [] → (u : Wire) → Here gs ss u (answers_then prefix names v u)
    answers_here vs os each room v chooses gs ss given said u =
        from_then ServedP ServedQ gs ss (shared_then names v) u (send_all (answers prefix v) u) (part_passes (answers prefix v) u)
        (λ hs ts a x h. shared_here vs os each room v chooses (gs ++ hs) (ss ++ ts) (ap (λ xs. gs ++ xs) h.0 ∙ append-nil gs ∙ given) (ap (λ xs. xs ++ ts) said ∙ h.1) x)
        (λ hs ts h. inl (few_more gs hs 1 0 (one vs os each room v chooses gs ss given) (let z : flushes_of hs ≡ 0 = ap flushes_of h.0 in omega arith) (omega arith)))

    pick_here : (vs : List ℕ) (os : List (List ℕ)) → Each os vs → length vs ≤ rows → (gs ss : List Pkt) → gs ≡ line w ∷ (map line os ++ flush ∷ []) → ss ≡ [] → (o : Option ℕ) → choice vs ≡ o → (u : Wire)
        → Here gs ss u (if_right (answers_then prefix names) (picked o) u)
    pick_here vs os each room gs ss given said None e u =
        from_got ServedP ServedQ gs ss (Err 38) u (let a = ap flushes_of given in let b = flushes_append (map line os) (flush ∷ []) in let c = lines_flushes os in let d : flushes_of (flush ∷ []) ≡ 1 = refl in omega arith)
    pick_here vs os each room gs ss given said (Some v) e u = answers_here vs os each room v e gs ss given said u

    offers_right : (gs ss : List Pkt) → gs ≡ line w ∷ [] → ss ≡ [] → (hs ts : List Pkt) (r : Result (List ℕ) ℕ) (u : Wire) → (ts ≡ []) × OffersRead rows hs r
        → Here (gs ++ hs) (ss ++ ts) u (if_right (pick_then prefix choice names) r u)
    offers_right gs ss given said hs ts (Ok vs) u h =
        pick_here vs h.1.lines h.1.each h.1.room (gs ++ hs) (ss ++ ts) (ap (λ xs. xs ++ hs) given ∙ ap (λ xs. line w ∷ xs) h.1.are) (ap (λ xs. ss ++ xs) h.0 ∙ append-nil ss ∙ said) (choice vs) refl u
    offers_right gs ss given said hs ts (Err n) u h = from_got ServedP ServedQ (gs ++ hs) (ss ++ ts) (Err n) u (few_more gs hs 0 0 (ap flushes_of given) (omega (arith, h.1)) (omega arith))

    offers_here : (gs ss : List Pkt) → gs ≡ line w ∷ [] → ss ≡ [] → (u : Wire) → Here gs ss u (versions_then prefix rows choice names tt u)
    offers_here gs ss given said u =
        from_then ServedP ServedQ gs ss (if_right (pick_then prefix choice names)) u (read_versions rows u) (versions_passes rows u) (λ hs ts r x h. offers_right gs ss given said hs ts r x h)
        (λ hs ts h. inl (few_more gs hs 0 0 (ap flushes_of given) (omega (arith, h.1)) (omega arith)))

  hail_right : (gs ss : List Pkt) (t : Option (List ℕ)) (r : Result (Unit {0}) ℕ) (u : Wire) → r ≡ hailed prefix t → AText gs ss t → Here gs ss u (if_right (versions_then prefix rows choice names) r u)
  hail_right gs ss None (Ok x) u e h = let z : ◌≡◌ {A = ℕ} 0 1 = cc in absurd (omega arith)
  hail_right gs ss (Some t) (Ok x) u e h = offers_here h.0 h.2 (ap (λ y. hailed prefix (Some y)) h.3 ∙ sym e) gs ss h.1 h.4 u
  hail_right gs ss None (Err n) u e h = from_got ServedP ServedQ gs ss (Err n) u (let c : flushes_of gs ≡ 1 = ap flushes_of h.0 in omega arith)
  hail_right gs ss (Some t) (Err n) u e h = from_got ServedP ServedQ gs ss (Err n) u (let c : flushes_of gs ≡ 0 = ap flushes_of h.1 in omega arith)

  served_passes : (v : Wire) → Passes ServedP ServedQ v (served prefix rows choice names v)
  served_passes v =
      from_start ServedP ServedQ v (served prefix rows choice names v)
      (from_then ServedP ServedQ [] [] (if_right (versions_then prefix rows choice names)) v (read_judged (hailed prefix) v) (judged_passes (hailed prefix) v)
      (λ hs ts r u h. hail_right hs ts h.0 r u h.2 h.1)
      (λ hs ts h. inl (omega (arith, h.0))))

  -- The law

  offers_of : (os : List (List ℕ)) (vs : List ℕ) → Each os vs → Offers (map trim_end os) vs
  offers_of [] [] e = tt
  offers_of [] (v ∷ vs) e = absurd e
  offers_of (o ∷ os) [] e = absurd e
  offers_of (o ∷ os) (v ∷ vs) e = (version_digits (trim_end o) v e.1, offers_of os vs e.2)

  texts_of : (os : List (List ℕ)) (vs : List ℕ) (ls : List (List ℕ)) → Each os vs → all_text ls ≡ true → all_text (os ++ ls) ≡ true
  texts_of [] vs ls e t = t
  texts_of (o ∷ os) [] ls e t = absurd e
  texts_of (o ∷ os) (v ∷ vs) ls e t = ap (λ b. b && all_text (os ++ ls)) e.0 ∙ texts_of os vs ls e.2 t

  -- one line, one version
  offers_same : (ts : List (List ℕ)) (vs ws : List ℕ) → Offers ts vs → Offers ts ws → vs ≡ ws
  offers_same [] [] [] h k = refl
  offers_same [] [] (w ∷ ws) h k = absurd k
  offers_same [] (v ∷ vs) ws h k = absurd h
  offers_same (t ∷ ts) [] ws h k = absurd h
  offers_same (t ∷ ts) (v ∷ vs) [] h k = absurd k
  offers_same (t ∷ ts) (v ∷ vs) (w ∷ ws) h k =
      let a = digits_version t h.0.0 v h.0.1 h.0.2 in
      let b = digits_version t k.0.0 w k.0.1 k.0.2 in
      let z : Some v ≡ Some w = sym a ∙ b in
      let e : v ≡ w = cc in
      ap (λ x. x ∷ vs) e ∙ ap (λ xs. w ∷ xs) (offers_same ts vs ws h.1 k.1)

  hailed_greets : (t : List ℕ) → hailed prefix (Some t) ≡ Ok tt → t ≡ prefix ++ codes "-client"
  hailed_greets t h = greets_role prefix (codes "-client") t (right _ h)
    where
      right : (b : Bool) → ◌≡◌ {A = Result (Unit {0}) ℕ} (cond b (Ok tt) (Err 30)) (Ok tt) → b ≡ true
      right true h = refl
      right false h = let z : ◌≡◌ {A = ℕ} 0 1 = cc in absurd (omega arith)

  heard : (given : List ℕ) (gs : List Pkt) (v : ℕ) (ks : List ℕ) → ReadsAs given gs → HeardBy gs v ks → Heard prefix rows choice names given v ks
  heard given gs v ks reads a =
      record {
        welcome = a.welcome;
        offers = a.offers;
        lines = a.lines;
        are = reads ∙ ap (λ (ps : List Pkt). record { packets = ps; left = [] }) a.are;
        texts = ap (λ b. b && all_text (a.offers ++ a.lines)) a.text ∙ texts_of a.offers a.versions a.lines a.each a.texts;
        greets = hailed_greets (trim_end a.welcome) a.greets;
        versions = a.versions;
        offered = offers_of a.offers a.versions a.each;
        room = a.room;
        chooses = a.chooses;
        value = a.value;
        shared = subst (SharedBy names (map trim_end a.lines)) (sym a.value) (shared_means names (map trim_end a.lines));
      }

  two : (given : List ℕ) (gs : List Pkt) (v : ℕ) (ks : List ℕ) → (decode given).packets ≡ gs → Heard prefix rows choice names given v ks → flushes_of gs ≡ 2
  two given gs v ks reads a =
      let x = ap flushes_of (sym reads ∙ ap (λ (d : Decoded). d.packets) a.are) in
      let p = flushes_append (map line a.offers) (flush ∷ (map line a.lines ++ flush ∷ [])) in
      let q = lines_flushes a.offers in
      let y = flushes_append (map line a.lines) (flush ∷ []) in
      let z = lines_flushes a.lines in
      let one : flushes_of (flush ∷ []) ≡ 1 = refl in
      omega arith

  -- what is heard determines what is answered
  same_by : (given : List ℕ) (gs : List Pkt) (v v' : ℕ) (ks ks' : List ℕ) → (decode given).packets ≡ gs → HeardBy gs v ks → Heard prefix rows choice names given v' ks' → (v ≡ v') × (ks ≡ ks')
  same_by given gs v v' ks ks' reads a b =
      let both : line a.welcome ∷ (map line a.offers ++ flush ∷ (map line a.lines ++ flush ∷ [])) ≡ line b.welcome ∷ (map line b.offers ++ flush ∷ (map line b.lines ++ flush ∷ [])) =
      sym a.are ∙ sym reads ∙ ap (λ (d : Decoded). d.packets) b.are in
      let rest : map line a.offers ++ flush ∷ (map line a.lines ++ flush ∷ []) ≡ map line b.offers ++ flush ∷ (map line b.lines ++ flush ∷ []) = cc in
      let first = lines_same a.offers b.offers (map line a.lines ++ flush ∷ []) (map line b.lines ++ flush ∷ []) rest in
      let last = (lines_same a.lines b.lines [] [] first.1).0 in
      let os = subst (λ xs. Offers (map trim_end xs) a.versions) first.0 (offers_of a.offers a.versions a.each) in
      let vs = offers_same (map trim_end b.offers) a.versions b.versions os b.offered in
      let z : Some v ≡ Some v' = sym a.chooses ∙ ap choice vs ∙ b.chooses in
      let e : v ≡ v' = cc in
      (e, a.value ∙ ap (λ ls. shared_of names (map trim_end ls)) last ∙ sym b.value)

  served_law : (sent given : List ℕ) (r : Result (Result Met ℕ) LineFault) → Told ServedP ServedQ sent given r → ServedLaw prefix rows choice names sent given r
  served_law sent given (Ok (Ok x)) (gs, (ss, reads, said, h)) =
      record {
        says = λ v ks e. let same : x ≡ met v ks = cc in said ∙ ap packets h.0 ∙ ap (λ (y : Met). packets (answers prefix y.version ++ shares names y.shared)) same;
        only = λ v ks e. let same : x ≡ met v ks = cc in heard given gs v ks reads (subst (λ (y : Met). HeardBy gs y.version y.shared) same h.1);
        all = λ v ks a s.
            let same = same_by given gs x.version v x.shared ks (ap (λ (d : Decoded). d.packets) reads) h.1 a in
            ap (λ n. Ok (Ok (met n x.shared))) same.0 ∙ ap (λ n. Ok (Ok (met v n))) same.1;
      }
  served_law sent given (Ok (Err n)) (gs, (ss, reads, said, h)) =
      record {
        says = λ v ks e. let z : ◌≡◌ {A = ℕ} 0 1 = cc in absurd (omega arith);
        only = λ v ks e. let z : ◌≡◌ {A = ℕ} 0 1 = cc in absurd (omega arith);
        all = λ v ks a s. let z = two given gs v ks (ap (λ (d : Decoded). d.packets) reads) a in absurd (omega arith);
      }
  served_law sent given (Err f) (gs, (ss, reads, said, h)) =
      record {
        says = λ v ks e. let z : ◌≡◌ {A = ℕ} 0 1 = cc in absurd (omega arith);
        only = λ v ks e. let z : ◌≡◌ {A = ℕ} 0 1 = cc in absurd (omega arith);
        all = λ v ks a s.
            ⊎_elim (λ (few : flushes_of gs ≤ 1). let z = two given gs v ks reads a in absurd (omega arith))
            (λ w.
            let (v', (ks', (by, (x, (rest, cut))))) = w in
            let same = same_by given gs v' v ks' ks reads by a in
            absurd (part_less (answers prefix v' ++ shares names ks') ss x rest cut (sym said ∙ s ∙ ap (λ n. packets (answers prefix n ++ shares names ks)) (sym same.0) ∙ ap (λ n. packets (answers prefix v' ++ shares names n)) (sym same.1))))
            h;
      }

  -- a server's handshake has its law
  pub served_told : {w : Sight} {p : ℕ} {a : Areas} {r : Result (Result Met ℕ) LineFault} {w' : Sight} {a' : Areas} (t : Talks (served prefix rows choice names) w p a r w' a')
      → ServedLaw prefix rows choice names (bytes_sent t.events) (bytes_given t.events) r
  served_told {r = r} t = served_law (bytes_sent t.events) (bytes_given t.events) r (told_by_talk ServedP ServedQ (served prefix rows choice names) served_passes t)
