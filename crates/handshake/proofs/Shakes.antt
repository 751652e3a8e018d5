-- What a handshake means, from the packets that pass.
use Rattle.std.proofs.Common.{◌≡◌, ℕ, ◌+◌, ◌≤◌, true, ◌&&◌, List, [], ◌∷◌, ◌++◌, map, length, Some, None, Ok, Err, Option, Result, sym, refl, ap, ◌∙◌, subst, arith}
use Rattle.std.proofs.lemmas.List.{append_assoc, append-nil}
use Rattle.std.proofs.lemmas.Bool.Decides.{same_from_decides}
use Rattle.slices.specs.declared.name.Name.{Name}
use Rattle.packetline.specs.Packets.{Pkt, flush, line, Decoded, decode, packets, flushes_of}
use Rattle.packetline.specs.Text.{utf8, trim_end}
use Rattle.host.specs.declared.peer.Peer.{Peer}
use Rattle.host.specs.Worlds.{World}
use Rattle.host.specs.Acts.{Log}
use Rattle.host.specs.Peers.{Does}
use Rattle.process.specs.Peers.{DoesBy}
use Rattle.host.specs.declared.fault.LineFault.{LineFault}
use Rattle.host.specs.Talk.{bytes_sent, bytes_given, Wire, Got, got, then, send_all, read_text}
use Rattle.process.specs.Given.{ReadsAs, all_text}
use Rattle.process.specs.Masks.{holds}
use Rattle.handshake.specs.Judged.{if_right, read_judged}
use Rattle.handshake.specs.Handshakes.{hello, desired, welcomed, chosen, ended, with_line, mask_then, mask_after, names_turn, names_step, read_names, Shaken, shaken, names_of, asks, flush_then, version_then, welcome_then, handshake, NamedAt, Agreed, HandshakeLaw}
use Rattle.process.proofs.Passes.{Passes, passes_then, passes_so, passes_got, send_all_passes, NoFlush, Silent, Untold, untold_flushes, only_text_passes, AText, text_passes, quiet_none, Turns, gather_passes, Told, told_by_talk}
use Rattle.process.proofs.Tellings.{map_push, text_push, text_silent, flushes_append, lines_flushes, lines_same}
use Rattle.process.proofs.Masks.{masks_same}
use Rattle.handshake.proofs.Naming.{mask_means}
use Rattle.handshake.proofs.Prefixes.{welcomed_greets, chosen_number, number_chosen}

-- Talks after others: gs and ss have passed already
module _ {B : Type 0} (P : List Pkt → List Pkt → B → Type 0) (Q : List Pkt → List Pkt → Type 0) where
  pub From : List Pkt → List Pkt → Wire → Got B → Type 0
  From gs ss u g = Passes (λ hs ts b. P (gs ++ hs) (ss ++ ts) b) (λ hs ts. Q (gs ++ hs) (ss ++ ts)) u g

  pub from_then : {A : Type 0} {P₁ : List Pkt → List Pkt → A → Type 0} {Q₁ : List Pkt → List Pkt → Type 0} (gs ss : List Pkt) (k : A → Wire → Got B) (v : Wire) (g : Got A) → Passes P₁ Q₁ v g
      → ((hs ts : List Pkt) (a : A) (u : Wire) → P₁ hs ts a → From (gs ++ hs) (ss ++ ts) u (k a u)) → ((hs ts : List Pkt) → Q₁ hs ts → Q (gs ++ hs) (ss ++ ts)) → From gs ss v (then g k)
  unfolding From
  from_then gs ss k v g t on stop =
      passes_then k v g t
      (λ hs ts a u p.
      passes_so u (k a u) (on hs ts a u p)
      (λ hs' ts' b h. subst (λ xs. P xs (ss ++ (ts ++ ts')) b) (append_assoc gs hs hs') (subst (λ xs. P ((gs ++ hs) ++ hs') xs b) (append_assoc ss ts ts') h))
      (λ hs' ts' h. subst (λ xs. Q xs (ss ++ (ts ++ ts'))) (append_assoc gs hs hs') (subst (λ xs. Q ((gs ++ hs) ++ hs') xs) (append_assoc ss ts ts') h)))
      stop

  pub from_got : (gs ss : List Pkt) (b : B) (v : Wire) → P gs ss b → From gs ss v (got b v)
  unfolding From
  from_got gs ss b v p = passes_got b v (subst (λ xs. P xs (ss ++ []) b) (sym (append-nil gs)) (subst (λ xs. P gs xs b) (sym (append-nil ss)) p))

  pub from_start : (v : Wire) (g : Got B) → From [] [] v g → Passes P Q v g
  unfolding From
  from_start v g t = t

-- Names

mask_push : (names : List Name) (ts : List (List ℕ)) (r : Result ℕ ℕ) (m : ℕ) (t : List ℕ) → mask_then names r ts ≡ Ok m → mask_then names r (ts ++ t ∷ []) ≡ with_line names m t
mask_push names [] (Ok n) m t e = let z : n ≡ m = cc in let last : (x : Result ℕ ℕ) → mask_then names x [] ≡ x = λ x. mask_end x in last (with_line names n t) ∙ ap (λ x. with_line names x t) z
  where
    mask_end : (x : Result ℕ ℕ) → mask_then names x [] ≡ x
    mask_end (Ok n) = refl
    mask_end (Err e) = refl
mask_push names [] (Err n) m t e = let z : ◌≡◌ {A = ℕ} 0 1 = cc in absurd (omega arith)
mask_push names (x ∷ ts) (Ok n) m t e = mask_push names ts (with_line names n x) m t e
mask_push names (x ∷ ts) (Err n) m t e = let z : ◌≡◌ {A = ℕ} 0 1 = cc in absurd (omega arith)

module _ (names : List Name) where
  record SoFar (hs : List Pkt) (m : ℕ) : Type 0 where
    lines : List (List ℕ)
    are : hs ≡ map line lines
    texts : all_text lines ≡ true
    mask : mask_after names 0 (map trim_end lines) ≡ Ok m

  record NamesLines (hs : List Pkt) (m : ℕ) : Type 0 where
    lines : List (List ℕ)
    are : hs ≡ map line lines ++ flush ∷ []
    texts : all_text lines ≡ true
    mask : mask_after names 0 (map trim_end lines) ≡ Ok m

  abbrev NamesRead : List Pkt → Result ℕ ℕ → Type 0
  NamesRead hs (Ok m) = NamesLines hs m
  NamesRead hs (Err n) = flushes_of hs ≡ 0

  line_turn : (hs gs ss : List Pkt) (m : ℕ) (t : List ℕ) → SoFar hs m → AText gs ss (Some t) → (r : Result ℕ ℕ) → with_line names m t ≡ r → Turns SoFar NamesRead (hs ++ gs) (names_turn r)
  line_turn hs gs ss m t i h (Ok m') e =
      let l = h.0 in (
        quiet_none,
        record {
          lines = i.lines ++ l ∷ [];
          are = ap (λ xs. xs ++ gs) i.are ∙ ap (λ xs. map line i.lines ++ xs) h.1 ∙ sym (map_push line i.lines l);
          texts = text_push i.lines l i.texts h.2;
          mask = ap (mask_after names 0) (map_push trim_end i.lines l ∙ ap (λ x. map trim_end i.lines ++ x ∷ []) h.3) ∙ mask_push names (map trim_end i.lines) (Ok 0) m t i.mask ∙ e;
        },
      )
  line_turn hs gs ss m t i h (Err n) e =
      let a = flushes_append hs gs in
      let b = ap flushes_of i.are ∙ lines_flushes i.lines in
      let c : flushes_of gs ≡ 0 = ap flushes_of h.1 in
      omega arith

  names_turns : (hs gs ss : List Pkt) (m : ℕ) (x : Option (List ℕ)) → SoFar hs m → AText gs ss x → Turns SoFar NamesRead (hs ++ gs) (names_step names m x)
  names_turns hs gs ss m None i h = record { lines = i.lines; are = ap (λ xs. xs ++ gs) i.are ∙ ap (λ xs. map line i.lines ++ xs) h.0; texts = i.texts; mask = i.mask }
  names_turns hs gs ss m (Some t) i h = line_turn hs gs ss m t i h (with_line names m t) refl

  no_flush_yet : (hs gs : List Pkt) (m : ℕ) → SoFar hs m → flushes_of gs ≡ 0 → flushes_of (hs ++ gs) ≡ 0
  no_flush_yet hs gs m i z = let a = flushes_append hs gs in let b = ap flushes_of i.are ∙ lines_flushes i.lines in omega arith

  names_passes : (v : Wire) → Passes (λ gs ss r. (ss ≡ []) × NamesRead gs r) (λ gs ss. (ss ≡ []) × (flushes_of gs ≡ 0)) v (read_names names v)
  names_passes v =
      gather_passes read_text (names_step names) text_passes text_silent SoFar NamesRead (λ gs. flushes_of gs ≡ 0) names_turns no_flush_yet 0 v
      (record { lines = []; are = refl; texts = refl; mask = refl })

-- A judged line

abbrev pub Judged : {A : Type 0} → (Option (List ℕ) → Result A ℕ) → List Pkt → List Pkt → Result A ℕ → Type 0
Judged judge gs ss r = (t : Option (List ℕ)) × AText gs ss t × (r ≡ judge t)

pub judged_untold : {A : Type 0} (judge : Option (List ℕ) → Result A ℕ) (v : Wire) → Passes (Judged judge) (Silent Untold) v (read_judged judge v)
judged_untold judge v =
    passes_then (λ t u. got (judge t) u) v (read_text v) (only_text_passes v)
    (λ gs ss t u h. passes_got (judge t) u (t, text_right t gs ss h, refl))
    (λ gs ss h. h)
  where
    text_right : (t : Option (List ℕ)) (gs ss : List Pkt) → AText gs ss t → AText (gs ++ []) (ss ++ []) t
    text_right t gs ss h = subst (λ xs. AText xs (ss ++ []) t) (sym (append-nil gs)) (subst (λ xs. AText gs xs t) (sym (append-nil ss)) h)

pub judged_passes : {A : Type 0} (judge : Option (List ℕ) → Result A ℕ) (v : Wire) → Passes (Judged judge) NoFlush v (read_judged judge v)
judged_passes judge v = passes_so v (read_judged judge v) (judged_untold judge v) (λ gs ss r h. h) (λ gs ss h. (untold_flushes gs h.1, h.0))

text_few : (t : Option (List ℕ)) (gs ss : List Pkt) → AText gs ss t → flushes_of gs ≤ 1
text_few None gs ss h = let c : flushes_of gs ≡ 1 = ap flushes_of h.0 in omega arith
text_few (Some t) gs ss h = let c : flushes_of gs ≡ 0 = ap flushes_of h.1 in omega arith

text_none : (t : Option (List ℕ)) (gs ss : List Pkt) → AText gs ss t → ss ≡ []
text_none t gs ss h = text_silent gs ss t h

-- The handshake

module _ (prefix versions : List ℕ) (names : List Name) where
  -- packets on which both agreed
  pub record AgreedBy (gs : List Pkt) (v m : ℕ) : Type 0 where
    pub welcome : List ℕ
    pub choice : List ℕ
    pub lines : List (List ℕ)
    pub are : gs ≡ line welcome ∷ line choice ∷ flush ∷ (map line lines ++ flush ∷ [])
    pub texts : all_text (welcome ∷ choice ∷ lines) ≡ true
    pub greets : welcomed prefix (Some (trim_end welcome)) ≡ Ok tt
    pub chooses : chosen versions (Some (trim_end choice)) ≡ Ok v
    pub mask : mask_after names 0 (map trim_end lines) ≡ Ok m

  abbrev pub Shook : List Pkt → List Pkt → Result Shaken ℕ → Type 0
  Shook gs ss (Ok x) = (ss ≡ hello prefix versions ++ desired names) × AgreedBy gs x.version x.mask
  Shook gs ss (Err n) = flushes_of gs ≤ 1

  abbrev pub Few : List Pkt → List Pkt → Type 0
  Few gs ss = flushes_of gs ≤ 1

  few_more : (gs hs : List Pkt) (n k : ℕ) → flushes_of gs ≡ n → flushes_of hs ≤ k → n + k ≤ 1 → flushes_of (gs ++ hs) ≤ 1
  few_more gs hs n k a b c = let d = flushes_append gs hs in omega arith

  abbrev Here : List Pkt → List Pkt → Wire → Got (Result Shaken ℕ) → Type 0
  Here gs ss u g = From Shook Few gs ss u g

  module _ (w c : List ℕ) (v : ℕ) (texts : (utf8 w ≡ true) × (utf8 c ≡ true)) (greets : welcomed prefix (Some (trim_end w)) ≡ Ok tt) (chooses : chosen versions (Some (trim_end c)) ≡ Ok v)
      (gs ss : List Pkt) (given : gs ≡ line w ∷ line c ∷ flush ∷ []) where
    one : flushes_of gs ≡ 1
    one = ap flushes_of given

    names_right : (hs ts : List Pkt) (r : Result ℕ ℕ) (u : Wire) → ss ≡ hello prefix versions ++ desired names → (ts ≡ []) × NamesRead names hs r
        → Here (gs ++ hs) (ss ++ ts) u (if_right (λ m x. got (Ok (shaken v m)) x) r u)
    names_right hs ts (Ok m) u said h =
        from_got Shook Few (gs ++ hs) (ss ++ ts) (Ok (shaken v m)) u (
          ap (λ xs. ss ++ xs) h.0 ∙ append-nil ss ∙ said,
          record {
            welcome = w;
            choice = c;
            lines = h.1.lines;
            are = ap (λ xs. xs ++ hs) given ∙ ap (λ xs. line w ∷ line c ∷ flush ∷ xs) h.1.are;
            texts = ap (λ b. b && (utf8 c && all_text h.1.lines)) texts.0 ∙ ap (λ b. b && all_text h.1.lines) texts.1 ∙ h.1.texts;
            greets = greets;
            chooses = chooses;
            mask = h.1.mask;
          },
        )
    names_right hs ts (Err n) u said h = from_got Shook Few (gs ++ hs) (ss ++ ts) (Err n) u (few_more gs hs 1 0 one (omega (arith, h.1)) (omega arith))

    names_here : (u : Wire) → ss ≡ hello prefix versions ++ desired names → Here gs ss u (names_of names v tt u)
    names_here u said =
        from_then Shook Few gs ss (if_right (λ m x. got (Ok (shaken v m)) x)) u (read_names names u) (names_passes names u) (λ hs ts r x h. names_right hs ts r x said h)
        (λ hs ts h. few_more gs hs 1 0 one (omega (arith, h.1)) (omega arith))

  module _ (w c : List ℕ) (v : ℕ) (texts : (utf8 w ≡ true) × (utf8 c ≡ true)) (greets : welcomed prefix (Some (trim_end w)) ≡ Ok tt) (chooses : chosen versions (Some (trim_end c)) ≡ Ok v) where
    asks_here : (gs ss : List Pkt) → gs ≡ line w ∷ line c ∷ flush ∷ [] → ss ≡ hello prefix versions → (u : Wire) → Here gs ss u (asks names v tt u)
    asks_here gs ss given said u =
        from_then Shook Few gs ss (names_of names v) u (send_all (desired names) u) (send_all_passes (desired names) u)
        (λ hs ts a x h.
        names_here w c v texts greets chooses (gs ++ hs) (ss ++ ts) (ap (λ xs. gs ++ xs) h.0 ∙ append-nil gs ∙ given) x
        (ap (λ xs. xs ++ ts) said ∙ ap (λ xs. hello prefix versions ++ xs) h.1))
        (λ hs ts h. few_more gs hs 1 0 (ap flushes_of given) (let z : flushes_of hs ≡ 0 = ap flushes_of h in omega arith) (omega arith))

    end_right : (gs ss : List Pkt) → gs ≡ line w ∷ line c ∷ [] → ss ≡ hello prefix versions → (hs ts : List Pkt) (t : Option (List ℕ)) (r : Result (Unit {0}) ℕ) (u : Wire) → r ≡ ended t → AText hs ts t
        → Here (gs ++ hs) (ss ++ ts) u (if_right (asks names v) r u)
    end_right gs ss given said hs ts None (Ok x) u e h =
        asks_here (gs ++ hs) (ss ++ ts) (ap (λ xs. xs ++ hs) given ∙ ap (λ xs. line w ∷ line c ∷ xs) h.0) (ap (λ xs. ss ++ xs) h.1 ∙ append-nil ss ∙ said) u
    end_right gs ss given said hs ts None (Err n) u e h = let z : ◌≡◌ {A = ℕ} 0 1 = cc in absurd (omega arith)
    end_right gs ss given said hs ts (Some t) (Ok x) u e h = let z : ◌≡◌ {A = ℕ} 0 1 = cc in absurd (omega arith)
    end_right gs ss given said hs ts (Some t) (Err n) u e h =
        from_got Shook Few (gs ++ hs) (ss ++ ts) (Err n) u (few_more gs hs 0 1 (ap flushes_of given) (text_few (Some t) hs ts h) (omega arith))

    flush_here : (gs ss : List Pkt) → gs ≡ line w ∷ line c ∷ [] → ss ≡ hello prefix versions → (u : Wire) → Here gs ss u (flush_then names v u)
    flush_here gs ss given said u =
        from_then Shook Few gs ss (if_right (asks names v)) u (read_judged ended u) (judged_passes ended u) (λ hs ts r x h. end_right gs ss given said hs ts h.0 r x h.2 h.1)
        (λ hs ts h. few_more gs hs 0 0 (ap flushes_of given) (omega (arith, h.0)) (omega arith))

  module _ (w : List ℕ) (text : utf8 w ≡ true) (greets : welcomed prefix (Some (trim_end w)) ≡ Ok tt) (gs ss : List Pkt) (given : gs ≡ line w ∷ []) (said : ss ≡ hello prefix versions) where
    version_right : (hs ts : List Pkt) (t : Option (List ℕ)) (r : Result ℕ ℕ) (u : Wire) → r ≡ chosen versions t → AText hs ts t → Here (gs ++ hs) (ss ++ ts) u (if_right (flush_then names) r u)
    version_right hs ts None (Ok v) u e h = let z : ◌≡◌ {A = ℕ} 0 1 = cc in absurd (omega arith)
    version_right hs ts (Some t) (Ok v) u e h =
        flush_here w h.0 v (text, h.2) greets (ap (λ x. chosen versions (Some x)) h.3 ∙ sym e) (gs ++ hs) (ss ++ ts) (ap (λ xs. xs ++ hs) given ∙ ap (λ xs. line w ∷ xs) h.1)
        (ap (λ xs. ss ++ xs) h.4 ∙ append-nil ss ∙ said) u
    version_right hs ts t (Err n) u e h =
        from_got Shook Few (gs ++ hs) (ss ++ ts) (Err n) u (few_more gs hs 0 1 (ap flushes_of given) (text_few t hs ts h) (omega arith))

    version_here : (u : Wire) → Here gs ss u (version_then versions names tt u)
    version_here u =
        from_then Shook Few gs ss (if_right (flush_then names)) u (read_judged (chosen versions) u) (judged_passes (chosen versions) u) (λ hs ts r x h. version_right hs ts h.0 r x h.2 h.1)
        (λ hs ts h. few_more gs hs 0 0 (ap flushes_of given) (omega (arith, h.0)) (omega arith))

  welcome_right : (gs ss : List Pkt) → gs ≡ [] → ss ≡ hello prefix versions → (hs ts : List Pkt) (t : Option (List ℕ)) (r : Result (Unit {0}) ℕ) (u : Wire) → r ≡ welcomed prefix t → AText hs ts t
      → Here (gs ++ hs) (ss ++ ts) u (if_right (version_then versions names) r u)
  welcome_right gs ss given said hs ts None (Ok x) u e h = let z : ◌≡◌ {A = ℕ} 0 1 = cc in absurd (omega arith)
  welcome_right gs ss given said hs ts (Some t) (Ok x) u e h =
      version_here h.0 h.2 (ap (λ y. welcomed prefix (Some y)) h.3 ∙ sym e) (gs ++ hs) (ss ++ ts) (ap (λ xs. xs ++ hs) given ∙ h.1) (ap (λ xs. ss ++ xs) h.4 ∙ append-nil ss ∙ said) u
  welcome_right gs ss given said hs ts t (Err n) u e h =
      from_got Shook Few (gs ++ hs) (ss ++ ts) (Err n) u (few_more gs hs 0 1 (ap flushes_of given) (text_few t hs ts h) (omega arith))

  welcome_here : (gs ss : List Pkt) → gs ≡ [] → ss ≡ hello prefix versions → (u : Wire) → Here gs ss u (welcome_then prefix versions names tt u)
  welcome_here gs ss given said u =
      from_then Shook Few gs ss (if_right (version_then versions names)) u (read_judged (welcomed prefix) u) (judged_passes (welcomed prefix) u)
      (λ hs ts r x h. welcome_right gs ss given said hs ts h.0 r x h.2 h.1)
      (λ hs ts h. few_more gs hs 0 0 (ap flushes_of given) (omega (arith, h.0)) (omega arith))

  pub handshake_passes : (v : Wire) → Passes Shook Few v (handshake prefix versions names v)
  handshake_passes v =
      from_start Shook Few v (handshake prefix versions names v)
      (from_then Shook Few [] [] (welcome_then prefix versions names) v (send_all (hello prefix versions) v) (send_all_passes (hello prefix versions) v)
      (λ hs ts a u h. welcome_here hs ts h.0 h.1 u)
      (λ hs ts h. let z : flushes_of hs ≡ 0 = ap flushes_of h in omega arith))

  -- The law

  module _ (few : length names ≤ 32) where
    agreed : (given : List ℕ) (gs : List Pkt) (v m : ℕ) → ReadsAs given gs → AgreedBy gs v m → Agreed prefix versions names given v m
    agreed given gs v m reads a =
        let n = chosen_number versions (trim_end a.choice) v a.chooses in
        let k = mask_means names (map trim_end a.lines) m few a.mask in
        record {
          welcome = a.welcome;
          choice = a.choice;
          lines = a.lines;
          are = reads ∙ ap (λ ps. record { packets = ps; left = [] }) a.are;
          texts = a.texts;
          greets = welcomed_greets prefix (trim_end a.welcome) a.greets;
          digits = n.0;
          chooses = n.1;
          number = n.2;
          offers = n.3;
          known = k.0;
          bits = k.1;
        }

    two : (given : List ℕ) (gs : List Pkt) (v m : ℕ) → (decode given).packets ≡ gs → Agreed prefix versions names given v m → flushes_of gs ≡ 2
    two given gs v m reads a =
        let x = ap flushes_of (sym reads ∙ ap (λ (d : Decoded). d.packets) a.are) in
        let y = flushes_append (map line a.lines) (flush ∷ []) in
        let z = lines_flushes a.lines in
        let q : flushes_of (flush ∷ []) ≡ 1 = refl in
        omega arith

    -- both agreed on one version and one mask
    same_by : (given : List ℕ) (gs : List Pkt) (v m v' m' : ℕ) → ReadsAs given gs → AgreedBy gs v m → Agreed prefix versions names given v' m' → shaken v m ≡ shaken v' m'
    same_by given gs v m v' m' reads a b =
        let both : line a.welcome ∷ line a.choice ∷ flush ∷ (map line a.lines ++ flush ∷ []) ≡ line b.welcome ∷ line b.choice ∷ flush ∷ (map line b.lines ++ flush ∷ []) =
        sym a.are ∙ ap (λ (d : Decoded). d.packets) (sym reads ∙ b.are) in
        let choice : a.choice ≡ b.choice = cc in
        let rest : map line a.lines ++ flush ∷ [] ≡ map line b.lines ++ flush ∷ [] = cc in
        let lines = (lines_same a.lines b.lines [] [] rest).0 in
        let n = number_chosen versions (trim_end b.choice) b.digits v' b.chooses b.number b.offers in
        let versions_same : v ≡ v' = ok_same v v' (sym a.chooses ∙ ap (λ x. chosen versions (Some (trim_end x))) choice ∙ n) in
        let k = (mask_means names (map trim_end a.lines) m few a.mask).1 in
        let masks : m ≡ m' =
        masks_same m m'
        (λ i. same_from_decides {P = NamedAt names i (map trim_end b.lines)} (holds m i) (holds m' i) (subst (λ ls. (holds m i ≡ true → NamedAt names i (map trim_end ls)) × (NamedAt names i (map trim_end ls) → holds m i ≡ true)) lines (k i)) (b.bits i)) in
        ap (λ x. shaken x m) versions_same ∙ ap (shaken v') masks
      where
        ok_same : (x y : ℕ) → ◌≡◌ {A = Result ℕ ℕ} (Ok x) (Ok y) → x ≡ y
        ok_same x y e = cc

    law_by : (sent given : List ℕ) (r : Result (Result Shaken ℕ) LineFault) → Told Shook Few sent given r → HandshakeLaw prefix versions names sent given r
    law_by sent given (Ok (Ok x)) (gs, (ss, reads, said, h)) =
        record {
          says = λ v m e. said ∙ ap packets h.0;
          only = λ v m e. let same : x ≡ shaken v m = cc in agreed given gs v m reads (subst (λ y. AgreedBy gs y.version y.mask) same h.1);
          all = λ v m a. ap (λ y. Ok (Ok y)) (same_by given gs x.version x.mask v m reads h.1 a);
        }
    law_by sent given (Ok (Err n)) (gs, (ss, reads, said, h)) =
        record {
          says = λ v m e. let z : ◌≡◌ {A = ℕ} 0 1 = cc in absurd (omega arith);
          only = λ v m e. let z : ◌≡◌ {A = ℕ} 0 1 = cc in absurd (omega arith);
          all = λ v m a. let z = two given gs v m (ap (λ (d : Decoded). d.packets) reads) a in absurd (omega arith);
        }
    law_by sent given (Err f) (gs, (ss, reads, said, h)) =
        record {
          says = λ v m e. let z : ◌≡◌ {A = ℕ} 0 1 = cc in absurd (omega arith);
          only = λ v m e. let z : ◌≡◌ {A = ℕ} 0 1 = cc in absurd (omega arith);
          all = λ v m a. let z = two given gs v m reads a in absurd (omega arith);
        }

    -- a handshake has its law
    pub handshake_does : {H : Type 0} {log : H → Log} {world : H → World} {p p' : Peer H} {r : Result (Result Shaken ℕ) LineFault} → Does log world (handshake prefix versions names) p r p'
        → DoesBy log world (HandshakeLaw prefix versions names) (handshake prefix versions names) p r p'
    handshake_does {r = r} s =
        record {
          lent = s.lent;
          talks = λ status.
              let t = s.talks status in
              (t, law_by (bytes_sent t.events) (bytes_given t.events) r (told_by_talk Shook Few (handshake prefix versions names) handshake_passes t));
        }
