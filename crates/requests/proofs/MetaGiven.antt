-- What is given of a request's metadata, and what a request means.
use Rattle.std.proofs.Common.{◌≡◌, ℕ, ◌<◌, ◌≤◌, Bool, true, false, cond, ltb, leb, List, [], ◌∷◌, ◌++◌, map, length, Some, None, Ok, Err, Option, Result, sym, refl, ap, ◌∙◌, subst, inl, inr, arith}
use Rattle.std.proofs.lemmas.List.{append-nil, append_assoc, length-append}
use Rattle.std.proofs.lemmas.Bool.{and_parts, ltb-true, leb-true}
use Rattle.packetline.specs.Metadata.{trim_both, pair_of, IsPair}
use Rattle.packetline.specs.Packets.{Pkt, flush, delimiter, response_end, line, Decoded, decode, packets}
use Rattle.packetline.proofs.Pairs.{pair_law}
use Rattle.host.specs.declared.fault.LineFault.{LineFault}
use Rattle.host.specs.Talk.{Wire, read}
use Rattle.process.specs.Gather.{Turn, goes, stops}
use Rattle.process.specs.Given.{ReadsAs}
use Rattle.process.proofs.Passes.{Passes, OneRead, whole_passes, decode_append, Turns, quiet_none, gather_passes_by, Told}
use Rattle.process.proofs.Tellings.{map_push}
use Rattle.requests.specs.Stored.{Pair, Request, request, and_pair, used, has_space}
use Rattle.requests.specs.Requests.{with_meta, meta_step, read_meta, AreMeta, CommandIs, Begins, RequestLaw}
use Rattle.requests.proofs.Holding.{space_none}
use Rattle.requests.proofs.Leading.{judged, Verdict, turned_lead, leads_meta, lead_by, leads, Led, Means, law_by}
use Rattle.requests.proofs.FirstGiven.{Commands}

meta_push : (ls : List (List ℕ)) (ps : List Pair) (l : List ℕ) (p : Pair) → AreMeta ls ps → IsPair (trim_both l) (Some p) → AreMeta (ls ++ l ∷ []) (ps ++ p ∷ [])
meta_push [] [] l p h k = (k, tt)
meta_push [] (q ∷ ps) l p h k = absurd h
meta_push (m ∷ ls) [] l p h k = absurd h
meta_push (m ∷ ls) (q ∷ ps) l p h k = (h.0, meta_push ls ps l p h.1 k)

-- What passes

module _ (rows room : ℕ) (c : List ℕ) where
  -- so far these packets were lines of metadata, and all of it found space
  pub record SoFar (hs : List Pkt) (q : Request) : Type 0 where
    pub lines : List (List ℕ)
    pub are : hs ≡ map line lines
    pub metadata : AreMeta lines q.pairs
    pub command : q.command ≡ c
    pub rows_for : length q.pairs ≤ rows
    pub room_for : used q ≤ room
    pub leads_on : (more : List Pkt) → leads_meta rows room (request c []) (hs ++ more) ≡ leads_meta rows room q more

  -- the last packet ended it
  pub record Ended (gs : List Pkt) (b : Verdict) : Type 0 where
    pub before : List Pkt
    pub asked : Request
    pub last : Pkt
    pub so_far : SoFar before asked
    pub are : gs ≡ before ++ last ∷ []
    pub ends : meta_step rows room asked last ≡ stops b

  end_at : (hs gs : List Pkt) (q : Request) (x : Pkt) (b : Verdict) → SoFar hs q → gs ≡ x ∷ [] → meta_step rows room q x ≡ stops b → Ended (hs ++ gs) b
  end_at hs gs q x b i e is = record { before = hs; asked = q; last = x; so_far = i; are = ap (λ xs. hs ++ xs) e; ends = is }

  space_turn : (b : Bool) (hs gs : List Pkt) (q : Request) (l : List ℕ) (p : Pair) → SoFar hs q → gs ≡ line l ∷ [] → IsPair (trim_both l) (Some p) → has_space rows room q p ≡ b
      → meta_step rows room q (line l) ≡ cond b (goes (and_pair q p) []) (stops (Err 7)) → Turns SoFar Ended (hs ++ gs) (cond b (goes (and_pair q p) []) (stops (Err 7)))
  space_turn true hs gs q l p i e k space is =
      let parts = and_parts (ltb (length q.pairs) rows) (leb (used (and_pair q p)) room) space in
      let row : length q.pairs < rows = ltb-true (length q.pairs) rows parts.0 in (
        quiet_none,
        record {
          lines = i.lines ++ l ∷ [];
          are = ap (λ xs. xs ++ gs) i.are ∙ ap (λ xs. map line i.lines ++ xs) e ∙ sym (map_push line i.lines l);
          metadata = meta_push i.lines q.pairs l p i.metadata k;
          command = i.command;
          rows_for = simp length-append (omega arith);
          room_for = leb-true (used (and_pair q p)) room parts.1;
          leads_on = λ more.
              ap (λ xs. leads_meta rows room (request c []) ((hs ++ xs) ++ more)) e
              ∙ ap (leads_meta rows room (request c [])) (append_assoc hs (line l ∷ []) more)
              ∙ i.leads_on (line l ∷ more)
              ∙ ap (λ t. turned_lead t (λ x. leads_meta rows room x more)) is;
        },
      )
  space_turn false hs gs q l p i e k space is = end_at hs gs q (line l) (Err 7) i e is

  pair_turn : (o : Option Pair) (hs gs : List Pkt) (q : Request) (l : List ℕ) → SoFar hs q → gs ≡ line l ∷ [] → IsPair (trim_both l) o → meta_step rows room q (line l) ≡ with_meta rows room q o
      → Turns SoFar Ended (hs ++ gs) (with_meta rows room q o)
  pair_turn None hs gs q l i e k is = end_at hs gs q (line l) (Err 40) i e is
  pair_turn (Some p) hs gs q l i e k is = space_turn (has_space rows room q p) hs gs q l p i e k refl is

  meta_turn : (hs gs ss : List Pkt) (q : Request) (x : Pkt) → SoFar hs q → OneRead gs ss x → Turns SoFar Ended (hs ++ gs) (meta_step rows room q x)
  meta_turn hs gs ss q flush i h = end_at hs gs q flush (Ok (Some q)) i h.0 refl
  meta_turn hs gs ss q delimiter i h = end_at hs gs q delimiter (Err 40) i h.0 refl
  meta_turn hs gs ss q response_end i h = end_at hs gs q response_end (Err 40) i h.0 refl
  meta_turn hs gs ss q (line l) i h = pair_turn (pair_of (trim_both l)) hs gs q l i h.0 (pair_law (trim_both l)) refl

  -- all that was given was taken
  abbrev pub AllTaken : List Pkt → Type 0
  AllTaken gs = (q : Request) × SoFar gs q

  abbrev pub MetaPassed : List Pkt → List Pkt → Verdict → Type 0
  MetaPassed gs ss r = (ss ≡ []) × Ended gs r

  abbrev pub NoMeta : List Pkt → List Pkt → Type 0
  NoMeta gs ss = (ss ≡ []) × AllTaken gs

  pub meta_passes : length c ≤ room → (v : Wire) → Passes MetaPassed NoMeta v (read_meta rows room (request c []) v)
  meta_passes within v =
      gather_passes_by read (meta_step rows room) {N = λ gs. gs ≡ []} whole_passes (λ gs ss p h. h.1) SoFar Ended AllTaken meta_turn
      (λ hs gs q i e. (q, subst (λ xs. SoFar xs q) (sym (ap (λ xs. hs ++ xs) e ∙ append-nil hs)) i)) refl (request c []) v
      (record {
        lines = [];
        are = refl;
        metadata = tt;
        command = refl;
        rows_for = omega arith;
        room_for = let e = ap length (append-nil c) in omega arith;
        leads_on = λ more. refl;
      })

  -- The law

  module _ (sent₁ given₁ : List ℕ) (p : Pkt) (reads₁ : ReadsAs given₁ (p ∷ [])) (silent₁ : sent₁ ≡ []) (is : judged room p ≡ Ok (Ok (Some c))) (k : Commands room p c) (sent₂ given₂ : List ℕ) where
    abbrev given : List ℕ
    given = given₁ ++ given₂

    all_given : decode given ≡ record { packets = p ∷ (decode given₂).packets; left = (decode given₂).left }
    all_given = decode_append given₁ given₂ (p ∷ []) reads₁

    all_sent : (ss : List Pkt) → sent₂ ≡ packets ss → ss ≡ [] → sent₁ ++ sent₂ ≡ []
    all_sent ss said none = ap (λ xs. xs ++ sent₂) silent₁ ∙ said ∙ ap packets none

    -- what was given leads where its metadata does
    all_leads : (gs : List Pkt) → (decode given₂).packets ≡ gs → leads rows room (decode given).packets ≡ leads_meta rows room (request c []) gs
    all_leads gs e =
        ap (λ (d : Decoded). leads rows room d.packets) all_given ∙ ap (λ o. lead_by rows room o (decode given₂).packets) is
        ∙ ap (leads_meta rows room (request c [])) e

    -- what was given begins a request, and ends with a packet
    begins : (gs hs : List Pkt) (q : Request) (x : Pkt) → ReadsAs given₂ gs → SoFar hs q → gs ≡ hs ++ x ∷ [] → Begins rows room given q x
    begins gs hs q x reads i e =
        record {
          first = k.first;
          lines = i.lines;
          are =
              all_given ∙ ap (λ (d : Decoded). record { packets = p ∷ d.packets; left = d.left }) reads
              ∙ ap (λ (ps : List Pkt). record { packets = p ∷ ps; left = [] }) (e ∙ ap (λ xs. xs ++ x ∷ []) i.are)
              ∙ ap (λ (y : Pkt). record { packets = y ∷ (map line i.lines ++ x ∷ []); left = [] }) k.is;
          commands = subst (CommandIs k.first) (sym i.command) k.commands;
          metadata = i.metadata;
          rows_for = i.rows_for;
          room_for = i.room_for;
        }

    -- what an end means
    space_means : (b : Bool) (q : Request) (l : List ℕ) (pr : Pair) (v : Verdict) → has_space rows room q pr ≡ b → IsPair (trim_both l) (Some pr) → Begins rows room given q (line l)
        → ◌≡◌ {A = Turn Request Verdict} (cond b (goes (and_pair q pr) []) (stops (Err 7))) (stops v) → Means rows room given (Ok v)
    space_means true q l pr v space h g e = let z : ◌≡◌ {A = ℕ} 0 1 = cc in absurd (omega arith)
    space_means false q l pr v space h g e =
        let same : Err 7 ≡ v = cc in
        subst (λ y. Means rows room given (Ok y)) same (inr (inr (refl, inr (q, l, pr, g, h, space_none rows room q pr space))))

    pair_means : (o : Option Pair) (q : Request) (l : List ℕ) (v : Verdict) → IsPair (trim_both l) o → Begins rows room given q (line l) → with_meta rows room q o ≡ stops v → Means rows room given (Ok v)
    pair_means None q l v h g e = let same : Err 40 ≡ v = cc in subst (λ y. Means rows room given (Ok y)) same (inr (inl (refl, (q, inr (inr (l, g, h))))))
    pair_means (Some pr) q l v h g e = space_means (has_space rows room q pr) q l pr v refl h g e

    end_means : (q : Request) (x : Pkt) (v : Verdict) → Begins rows room given q x → meta_step rows room q x ≡ stops v → Means rows room given (Ok v)
    end_means q flush v g e = let same : Ok (Some q) ≡ v = cc in subst (λ y. Means rows room given (Ok y)) same g
    end_means q delimiter v g e = let same : Err 40 ≡ v = cc in subst (λ y. Means rows room given (Ok y)) same (inr (inl (refl, (q, inl g))))
    end_means q response_end v g e = let same : Err 40 ≡ v = cc in subst (λ y. Means rows room given (Ok y)) same (inr (inl (refl, (q, inr (inl g)))))
    end_means q (line l) v g e = pair_means (pair_of (trim_both l)) q l v (pair_law (trim_both l)) g e

    -- and what it leads to
    end_led : (v : Verdict) → leads rows room (decode given).packets ≡ Some v → Led rows room given (Ok v)
    end_led (Ok None) e = inr e
    end_led (Ok (Some q)) e = e
    end_led (Err n) e = e

    pub told_law : (r : Result Verdict LineFault) → Told MetaPassed NoMeta sent₂ given₂ r → RequestLaw rows room (sent₁ ++ sent₂) given r
    told_law (Ok v) (gs, (ss, reads, said, h)) =
        let e = h.1 in
        law_by rows room given (sent₁ ++ sent₂) (Ok v) (all_sent ss said h.0)
        (end_led v
        (all_leads gs (ap (λ (d : Decoded). d.packets) reads) ∙ ap (leads_meta rows room (request c [])) e.are ∙ e.so_far.leads_on (e.last ∷ [])
        ∙ ap (λ t. turned_lead t (λ x. None)) e.ends))
        (end_means e.asked e.last v (begins gs e.before e.asked e.last reads e.so_far e.are) e.ends)
    told_law (Err f) (gs, (ss, reads, said, h)) =
        let i = h.1.1 in
        law_by rows room given (sent₁ ++ sent₂) (Err f) (all_sent ss said h.0)
        (all_leads gs reads ∙ ap (leads_meta rows room (request c [])) (sym (append-nil gs)) ∙ i.leads_on [])
        tt
