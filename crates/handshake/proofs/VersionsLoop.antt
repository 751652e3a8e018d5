-- The loop that reads the versions that a client offers.
use Rattle.std.proofs.Common.{◌≡◌, ℕ, ◌-◌, ◌<◌, ◌≤◌, Bool, true, false, ltb, List, [], ◌∷◌, ◌++◌, map, length, take, drop, Some, None, Ok, Err, Option, Result, sym, refl, ap, ◌∙◌, subst, cond, arith}
use Rattle.std.proofs.lemmas.List.{append-nil, append_assoc, length_push, take_at}
use Rattle.std.proofs.lemmas.Bool.{cond-true, cond-false, lt-ltb, le-ltb, ltb-true, ltb-false}
use Rattle.packetline.specs.Packets.{Pkt, flush, delimiter, response_end, line, Decoded, decode, over}
use Rattle.packetline.specs.Text.{utf8, trim_end, text_of}
use Rattle.host.specs.declared.fault.LineFault.{LineFault}
use Rattle.process.specs.Given.{ReadsAs}
use Rattle.process.proofs.Passes.{decode_append, decode_empty, Untold}
use Rattle.process.proofs.Tellings.{map_push}
use Rattle.host.specs.declared.peer.Peer.{Peer}
use Rattle.host.specs.Worlds.{World}
use Rattle.host.specs.Acts.{Log}
use Rattle.host.specs.Talk.{read_text, shown_part}
use Rattle.host.specs.Peers.{Does}
use Rattle.process.specs.Peers.{DoesBy}
use Rattle.process.proofs.Reading.{Line, text_at, LeftLines, by_given, by_is, lines_first, lines_fault, lines_stop, lines_more}
use Rattle.handshake.specs.Judged.{version_in}
use Rattle.handshake.specs.Servers.{with_version, versions_turn, versions_step, read_versions, offer_by, offer_then, offers_in, HoldsOffers, HoldsOn, Holding, kept_by}

-- each line is text that offers its version
abbrev pub Each : List (List ℕ) → List ℕ → Type 0
Each [] [] = Unit {0}
Each [] (v ∷ vs) = ⊥
Each (l ∷ ls) [] = ⊥
Each (l ∷ ls) (v ∷ vs) = (utf8 l ≡ true) × (version_in (Some (trim_end l)) ≡ Some v) × Each ls vs

each_push : (ls : List (List ℕ)) (vs : List ℕ) (l : List ℕ) (v : ℕ) → Each ls vs → utf8 l ≡ true → version_in (Some (trim_end l)) ≡ Some v → Each (ls ++ l ∷ []) (vs ++ v ∷ [])
each_push [] [] l v e u i = (u, i, tt)
each_push [] (x ∷ vs) l v e u i = absurd e
each_push (k ∷ ls) [] l v e u i = absurd e
each_push (k ∷ ls) (x ∷ vs) l v e u i = (e.0, e.1, each_push ls vs l v e.2 u i)

-- these packets are lines that offer these versions, and there are rows for them
pub record OfferLines (rows : ℕ) (hs : List Pkt) (vs : List ℕ) : Type 0 where
  pub lines : List (List ℕ)
  pub are : hs ≡ map line lines
  pub each : Each lines vs
  pub room : length vs ≤ rows

pub offer_push : {rows : ℕ} (hs : List Pkt) (vs : List ℕ) (l : List ℕ) (v : ℕ) → OfferLines rows hs vs → utf8 l ≡ true → version_in (Some (trim_end l)) ≡ Some v → length vs < rows
    → OfferLines rows (hs ++ line l ∷ []) (vs ++ v ∷ [])
offer_push hs vs l v o u e room =
    record {
      lines = o.lines ++ l ∷ [];
      are = ap (λ xs. xs ++ line l ∷ []) o.are ∙ sym (map_push line o.lines l);
      each = each_push o.lines vs l v o.each u e;
      room = let k = length_push vs v in omega (arith, k, room);
    }

pub offer_none : (rows : ℕ) → OfferLines rows [] []
offer_none rows = record { lines = []; are = refl; each = tt; room = omega arith }

-- the bytes given so far
abbrev pub Offered : ℕ → List ℕ → List ℕ → Type 0
Offered rows given vs = (hs : List Pkt) × ReadsAs given hs × OfferLines rows hs vs

offer_text : (l : List ℕ) → utf8 l ≡ true → offer_by (text_of l) ≡ version_in (Some (trim_end l))
offer_text l u = ap offer_by (cond-true (utf8 l) (Ok (trim_end l)) (Err 22) u)

-- lines that offer versions, and what follows them
offers_lines : (ls : List (List ℕ)) (vs : List ℕ) (rows : ℕ) (tail : List Pkt) → Each ls vs → length vs ≤ rows → offers_in rows (map line ls ++ tail) ≡ vs ++ offers_in (rows - length vs) tail
offers_lines [] [] rows tail e r = let z : rows ≡ rows - 0 = omega arith in ap (λ n. offers_in n tail) z
offers_lines [] (v ∷ vs) rows tail e r = absurd e
offers_lines (l ∷ ls) [] rows tail e r = absurd e
offers_lines (l ∷ ls) (v ∷ vs) rows tail e r =
    let more = offers_in (rows - 1) (map line ls ++ tail) in
    let rest = offers_lines ls vs (rows - 1) tail e.2 (omega arith) in
    let count : rows - 1 - length vs ≡ rows - length (v ∷ vs) = omega arith in
    ap (λ o. offer_then rows o more) (offer_text l e.0 ∙ e.1)
    ∙ cond-true (ltb 0 rows) (v ∷ more) [] (lt-ltb 0 rows (omega arith))
    ∙ ap (λ xs. v ∷ xs) (rest ∙ ap (λ n. vs ++ offers_in n tail) count)

-- what follows offers none
abbrev NoOffer : ℕ → List Pkt → Type 0
NoOffer rows tail = offers_in rows tail ≡ []

untold_none : (rows : ℕ) (ps : List Pkt) → Untold ps → NoOffer rows ps
untold_none rows [] h = refl
untold_none rows (flush ∷ ps) h = refl
untold_none rows (delimiter ∷ ps) h = refl
untold_none rows (response_end ∷ ps) h = refl
untold_none rows (line l ∷ ps) h = ap (λ o. offer_then rows o (offers_in (rows - 1) ps)) (ap offer_by (cond-false (utf8 l) (Ok (trim_end l)) (Err 22) h.0))

-- a line that offers no version, or one for which there is no row
refused_none : (rows : ℕ) (vs : List ℕ) (l : List ℕ) (n : ℕ) (o : Option ℕ) → utf8 l ≡ true → version_in (Some (trim_end l)) ≡ o → with_version rows vs o ≡ Err n → NoOffer (rows - length vs) (line l ∷ [])
refused_none rows vs l n None u e h = ap (λ o. offer_then (rows - length vs) o []) (offer_text l u ∙ e)
refused_none rows vs l n (Some v) u e h =
    ap (λ o. offer_then (rows - length vs) o []) (offer_text l u ∙ e) ∙ full (ltb (length vs) rows) refl h
  where
    full : (b : Bool) → ltb (length vs) rows ≡ b → ◌≡◌ {A = Result (List ℕ) ℕ} (cond b (Ok (vs ++ v ∷ [])) (Err 7)) (Err n) → cond (ltb 0 (rows - length vs)) (v ∷ []) [] ≡ []
    full true e h = let z : ◌≡◌ {A = ℕ} 0 1 = cc in absurd (omega arith)
    full false e h = let none = ltb-false (length vs) rows e in cond-false (ltb 0 (rows - length vs)) (v ∷ []) [] (le-ltb 0 (rows - length vs) (omega (arith, none)))

-- What the rows hold, at each end of the loop

module _ (rows : ℕ) (vs : List ℕ) (given : List ℕ) (so_far : Offered rows given vs) where
  -- behind these lines bytes that offer none
  behind_lines : (more : List ℕ) → offers_in rows (decode (given ++ more)).packets ≡ vs ++ offers_in (rows - length vs) (decode more).packets
  behind_lines more =
      let (hs, reads, o) = so_far in
      ap (λ (d : Decoded). offers_in rows d.packets) (decode_append given more hs reads)
      ∙ ap (λ ps. offers_in rows (ps ++ (decode more).packets)) o.are
      ∙ offers_lines o.lines vs rows (decode more).packets o.each o.room

  held : (more : List ℕ) → NoOffer (rows - length vs) (decode more).packets → offers_in rows (decode (given ++ more)).packets ≡ vs
  held more none = behind_lines more ∙ ap (λ xs. vs ++ xs) none ∙ append-nil vs

  pub held_fault : (more : List ℕ) (e : LineFault) → Line more (Err e) → offers_in rows (decode (given ++ more)).packets ≡ vs
  held_fault more e (sent, (gs, (ss, reads, said, h))) = held more (ap (λ ps. offers_in (rows - length vs) ps) reads ∙ untold_none (rows - length vs) gs h.1)

  -- a flush: whatever follows
  pub held_flush : (more : List ℕ) → Line more (Ok None) → (behind : List ℕ) → offers_in rows (decode ((given ++ more) ++ behind)).packets ≡ vs
  held_flush more (sent, (gs, (ss, reads, said, h))) behind =
      ap (λ bs. offers_in rows (decode bs).packets) (append_assoc given more behind)
      ∙ held (more ++ behind) (ap (λ (d : Decoded). offers_in (rows - length vs) d.packets) (decode_append more behind gs reads) ∙ ap (λ ps. offers_in (rows - length vs) (ps ++ (decode behind).packets)) h.0)

  module _ (t : List ℕ) (more : List ℕ) (l : Line more (Ok (Some t))) where
    -- the line that was read
    payload : (p : List ℕ) × ReadsAs more (line p ∷ []) × (utf8 p ≡ true) × (trim_end p ≡ t)
    payload =
        let (sent, (gs, (ss, reads, said, h))) = l in
        (h.0, reads ∙ ap (λ (ps : List Pkt). record { packets = ps; left = [] }) h.1, h.2, h.3)

    pub held_wrong : (n : ℕ) → with_version rows vs (version_in (Some t)) ≡ Err n → offers_in rows (decode (given ++ more)).packets ≡ vs
    held_wrong n e =
        let (p, reads, u, is) = payload in
        held more
        (ap (λ (d : Decoded). offers_in (rows - length vs) d.packets) reads
        ∙ refused_none rows vs p n (version_in (Some (trim_end p))) u refl (ap (λ x. with_version rows vs (version_in (Some x))) is ∙ e))

    pub held_more : (v : ℕ) → version_in (Some t) ≡ Some v → length vs < rows → Offered rows (given ++ more) (vs ++ v ∷ [])
    held_more v e room =
        let (p, reads, u, is) = payload in
        let (hs, so, o) = so_far in (
          hs ++ line p ∷ [],
          decode_append given more hs so ∙ ap (λ (d : Decoded). record { packets = hs ++ d.packets; left = d.left }) reads,
          offer_push hs vs p v o u (ap (λ x. version_in (Some x)) is ∙ e) room,
        )

pub offered_none : (rows : ℕ) → Offered rows [] []
offered_none rows = ([], decode_empty, offer_none rows)

-- The loop

abbrev pub LeftVersions : {H : Type 0} → (H → Log) → (H → World) → List ℕ → List ℕ → Peer H → Peer H → Type 0
LeftVersions log world space vs p p₀ = LeftLines log world (versions_step (length space)) (Offered (length space)) (read_versions (length space)) vs p p₀

abbrev pub ReadsOffers : {H : Type 0} → (H → Log) → (H → World) → List ℕ → List ℕ → Peer H → Result (Result (List ℕ) ℕ) LineFault → Peer H → Type 0
ReadsOffers log world space space' p₀ r p₁ = DoesBy log world (λ _ given r. HoldsOn space given r space') (read_versions (length space)) p₀ r p₁

holds : (space rows : List ℕ) (count : ℕ) (vs : List ℕ) → Holding space vs rows count → (given : List ℕ) → offers_in (length space) (decode given).packets ≡ vs → HoldsOffers space given rows
holds space rows count vs holding given e = holding.0 ∙ ap (λ ws. over ws space) (sym e)

-- one version more
pub more_if : (rows : ℕ) (vs ws : List ℕ) (v : ℕ) (b : Bool) → ltb (length vs) rows ≡ b → ◌≡◌ {A = Result (List ℕ) ℕ} (cond b (Ok (vs ++ v ∷ [])) (Err 7)) (Ok ws) → (length vs < rows) × (vs ++ v ∷ [] ≡ ws)
more_if rows vs ws v true e h = (ltb-true (length vs) rows e, cc)
more_if rows vs ws v false e h = let z : ◌≡◌ {A = ℕ} 0 1 = cc in absurd (omega arith)

more_by : (rows : ℕ) (vs ws : List ℕ) (text : List ℕ) (o : Option ℕ) → version_in (Some text) ≡ o → with_version rows vs o ≡ Ok ws → (given more : List ℕ) → Offered rows given vs → Line more (Ok (Some text)) → Offered rows (given ++ more) ws
more_by rows vs ws text None is e given more so l = let z : ◌≡◌ {A = ℕ} 0 1 = cc in absurd (omega arith)
more_by rows vs ws text (Some v) is e given more so l =
    let m = more_if rows vs ws v (ltb (length vs) rows) refl e in
    subst (Offered rows (given ++ more)) m.1 (held_more rows vs given so text more l v is m.0)

pub versions_first : {H : Type 0} {log : H → Log} {world : H → World} (space : List ℕ) (p : Peer H) → LeftVersions log world space [] p p
versions_first space p = lines_first (versions_step (length space)) (Offered (length space)) [] (offered_none (length space)) p

module _ {H : Type 0} {log : H → Log} {world : H → World} (space rows : List ℕ) (count : ℕ) (vs : List ℕ) (holding : Holding space vs rows count) {p p₀ : Peer H} (on : LeftVersions log world space vs p p₀) {p₁ : Peer H} where
  pub versions_fault : (e : LineFault) → Does log world read_text p (Err e) p₁ → ReadsOffers log world space rows p₀ (Err e) p₁
  versions_fault e s =
      by_given (λ _ given r. HoldsOn space given r rows)
      (lines_fault (versions_step (length space)) (Offered (length space)) on (λ given. HoldsOffers space given rows) e s (λ given more k l. holds space rows count vs holding (given ++ more) (held_fault (length space) vs given k more e l)))
      (λ sent given q. q)

  module _ (o : Option ℕ) (s : Does log world read_text p (shown_part p₁.work.now (Ok o)) p₁) where
    pub versions_end : o ≡ None → ReadsOffers log world space rows p₀ (Ok (Ok vs)) p₁
    versions_end e =
        by_given (λ _ given r. HoldsOn space given r rows)
        (lines_stop (versions_step (length space)) (Offered (length space)) on o s None (ap (text_at p₁.work.now) (sym e)) (λ given. (behind : List ℕ) → HoldsOffers space (given ++ behind) rows) (Ok vs) refl
        (λ given more k l behind. holds space rows count vs holding ((given ++ more) ++ behind) (held_flush (length space) vs given k more l behind)))
        (λ sent given q. q)

    module _ (n : ℕ) (some : o ≡ Some n) (text : List ℕ) (front : text ≡ take n p₁.work.now) where
      here : Some text ≡ text_at p₁.work.now o
      here = ap (λ l. Some l) front ∙ ap (text_at p₁.work.now) (sym some)

      pub versions_wrong : (k : ℕ) → with_version (length space) vs (version_in (Some text)) ≡ Err k → ReadsOffers log world space rows p₀ (Ok (Err k)) p₁
      versions_wrong k e =
          by_given (λ _ given r. HoldsOn space given r rows)
          (lines_stop (versions_step (length space)) (Offered (length space)) on o s (Some text) here (λ given. HoldsOffers space given rows) (Err k) (ap versions_turn e)
          (λ given more so l. holds space rows count vs holding (given ++ more) (held_wrong (length space) vs given so text more l k e)))
          (λ sent given q. q)

      pub versions_more : (ws : List ℕ) → with_version (length space) vs (version_in (Some text)) ≡ Ok ws → LeftVersions log world space ws p₁ p₀
      versions_more ws e =
          lines_more (versions_step (length space)) (Offered (length space)) on o s (Some text) here ws (ap versions_turn e)
          (λ given more so l. more_by (length space) vs ws text (version_in (Some text)) refl e given more so l)

-- what was kept of a line that was refused, and of one that was taken
pub kept_wrong : (vs : List ℕ) (w : Result (List ℕ) ℕ) (n : ℕ) (space rows : List ℕ) (count : ℕ) → Err n ≡ w → Holding space (kept_by vs w) rows count → Holding space vs rows count
kept_wrong vs w n space rows count e h = subst (λ x. Holding space (kept_by vs x) rows count) (sym e) h

-- the held versions are the first of the rows
pub held_front : (space rows : List ℕ) (count : ℕ) (vs space' : List ℕ) (n : ℕ) → Holding space vs rows count → space' ≡ rows → n ≡ count → take n space' ≡ vs
held_front space rows count vs space' n (is, many, fits) last e =
    ap (λ k. take k space') (e ∙ many) ∙ ap (λ l. take (length vs) l) (last ∙ is) ∙ take_at vs (drop (length vs) space) (length vs) refl

-- the rows as the caller has them back
pub offers_back : {H : Type 0} {log : H → Log} {world : H → World} {space₀ space rows space' : List ℕ} {p₀ p₁ : Peer H} {r r' : Result (Result (List ℕ) ℕ) LineFault} → space₀ ≡ space → space' ≡ rows → r' ≡ r
    → ReadsOffers log world space₀ rows p₀ r p₁ → ReadsOffers log world space space' p₀ r' p₁
offers_back {log = log} {world = world} {space₀ = space₀} {space = space} {rows = rows} {space' = space'} {p₀ = p₀} {p₁ = p₁} {r = r} {r' = r'} same last is d =
    by_is is (subst (λ x. ReadsOffers log world x space' p₀ r p₁) same (subst (λ x. ReadsOffers log world space₀ x p₀ r p₁) (sym last) d))
