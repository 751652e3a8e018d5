-- What is stored of packets, in words.
use Rattle.std.proofs.Common.{◌≡◌, ℕ, ◌<◌, Bool, true, false, cond, leb, List, [], ◌∷◌, ◌++◌, map, length, Some, None, Ok, Err, codes, Option, sym, refl, ap, ◌∙◌, subst, inl, inr, arith}
use Rattle.std.proofs.lemmas.List.{append-nil, append_assoc}
use Rattle.std.proofs.lemmas.Bool.{leb-false}
use Rattle.packetline.specs.Lines.{after_prefix}
use Rattle.packetline.specs.Metadata.{trim_both, pair_of, IsPair}
use Rattle.packetline.specs.Packets.{Pkt, flush, delimiter, response_end, line}
use Rattle.packetline.specs.Text.{utf8, trim_end}
use Rattle.packetline.proofs.Pairs.{pair_is, pair_law}
use Rattle.process.specs.Gather.{goes, stops}
use Rattle.process.proofs.LineKinds.{After, after_law}
use Rattle.requests.specs.Stored.{Pair, Request, request, and_pair, has_space}
use Rattle.requests.specs.Requests.{with_command, with_meta, AreMeta, CommandIs, NoSpace, kept_of, text_kept, turn_kept, meta_kept, behind_kept, stored_in, TakesPairs, IsStored}
use Rattle.requests.proofs.Holding.{space_none}

module _ (rows room : ℕ) where
  -- the pairs of the first packets behind q, up to one that is not taken
  record TakesFrom (q : Request) (ps : List Pkt) (x : Request) : Type 0 where
    lines : List (List ℕ)
    new : List Pair
    left : List Pkt
    are : ps ≡ map line lines ++ left
    metadata : AreMeta lines new
    whole : x ≡ request q.command (q.pairs ++ new)
    stops : (l : List ℕ) (ms : List Pkt) (p : Pair) → left ≡ line l ∷ ms → IsPair (trim_both l) (Some p) → NoSpace rows room x p

  -- none of them
  takes_none : (q : Request) (ps : List Pkt) → ((l : List ℕ) (ms : List Pkt) (p : Pair) → ps ≡ line l ∷ ms → IsPair (trim_both l) (Some p) → NoSpace rows room q p) → TakesFrom q ps q
  takes_none q ps h =
      record { lines = []; new = []; left = ps; are = refl; metadata = tt; whole = ap (λ (xs : List Pair). request q.command xs) (sym (append-nil q.pairs)); stops = h }

  -- one more
  takes_more : (q : Request) (l : List ℕ) (ps : List Pkt) (p : Pair) (x : Request) → IsPair (trim_both l) (Some p) → TakesFrom (and_pair q p) ps x → TakesFrom q (line l ∷ ps) x
  takes_more q l ps p x h t =
      record {
        lines = l ∷ t.lines;
        new = p ∷ t.new;
        left = t.left;
        are = ap (λ xs. line l ∷ xs) t.are;
        metadata = (h, t.metadata);
        whole = t.whole ∙ ap (λ (xs : List Pair). request q.command xs) (append_assoc q.pairs (p ∷ []) t.new);
        stops = t.stops;
      }

  space_takes : (b : Bool) (q : Request) (l : List ℕ) (ps : List Pkt) (p : Pair) → has_space rows room q p ≡ b → IsPair (trim_both l) (Some p) → TakesFrom (and_pair q p) ps (meta_kept rows room (and_pair q p) ps)
      → TakesFrom q (line l ∷ ps) (turn_kept q (cond b (goes (and_pair q p) []) (stops (Err 7))) (λ x. meta_kept rows room x ps))
  space_takes true q l ps p space h t = takes_more q l ps p _ h t
  space_takes false q l ps p space h t =
      takes_none q (line l ∷ ps)
      (λ m ms r e k.
      let same : l ≡ m = cc in
      let both : Some r ≡ Some p = pair_is (trim_both m) (Some r) k ∙ ap (λ y. pair_of (trim_both y)) (sym same) ∙ sym (pair_is (trim_both l) (Some p) h) in
      let pairs : p ≡ r = cc in
      subst (NoSpace rows room q) pairs (space_none rows room q p space))

  pair_takes : (o : Option Pair) (q : Request) (l : List ℕ) (ps : List Pkt) → pair_of (trim_both l) ≡ o → IsPair (trim_both l) o → ((p : Pair) → TakesFrom (and_pair q p) ps (meta_kept rows room (and_pair q p) ps))
      → TakesFrom q (line l ∷ ps) (turn_kept q (with_meta rows room q o) (λ x. meta_kept rows room x ps))
  pair_takes None q l ps is h t =
      takes_none q (line l ∷ ps)
      (λ m ms r e k.
      let same : l ≡ m = cc in
      let some : Some r ≡ None = pair_is (trim_both m) (Some r) k ∙ ap (λ y. pair_of (trim_both y)) (sym same) ∙ is in
      let z : ◌≡◌ {A = ℕ} 0 1 = cc in
      absurd (omega arith))
  pair_takes (Some p) q l ps is h t = space_takes (has_space rows room q p) q l ps p refl h (t p)

  no_line : {p x : Pkt} {ps xs : List Pkt} → p ∷ ps ≡ x ∷ xs → p ≡ x
  no_line e = cc

  kept_takes : (ps : List Pkt) (q : Request) → TakesFrom q ps (meta_kept rows room q ps)
  kept_takes [] q = takes_none q [] (λ l ms p e k. let z : ◌≡◌ {A = ℕ} 0 1 = cc in absurd (omega arith))
  kept_takes (flush ∷ ps) q = takes_none q (flush ∷ ps) (λ l ms p e k. let h = no_line e in let z : ◌≡◌ {A = ℕ} 0 1 = cc in absurd (omega arith))
  kept_takes (delimiter ∷ ps) q = takes_none q (delimiter ∷ ps) (λ l ms p e k. let h = no_line e in let z : ◌≡◌ {A = ℕ} 0 1 = cc in absurd (omega arith))
  kept_takes (response_end ∷ ps) q = takes_none q (response_end ∷ ps) (λ l ms p e k. let h = no_line e in let z : ◌≡◌ {A = ℕ} 0 1 = cc in absurd (omega arith))
  kept_takes (line l ∷ ps) q = pair_takes (pair_of (trim_both l)) q l ps refl (pair_law (trim_both l)) (λ p. kept_takes ps (and_pair q p))

  -- behind a command
  pairs_taken : (c : List ℕ) (ps : List Pkt) → ((meta_kept rows room (request c []) ps).command ≡ c) × TakesPairs rows room ps (meta_kept rows room (request c []) ps)
  pairs_taken c ps =
      let t = kept_takes ps (request c []) in
      (ap (λ (x : Request). x.command) t.whole, record { lines = t.lines; left = t.left; are = t.are; metadata = subst (AreMeta t.lines) (sym (ap (λ (x : Request). x.pairs) t.whole)) t.metadata; stops = t.stops })

  module _ (l : List ℕ) (ps : List Pkt) where
    abbrev Law : Option (List ℕ) → Type 0
    Law o = IsStored rows room (line l ∷ ps) (behind_kept rows room ps o)

    command_law : (c : List ℕ) → CommandIs l c → Law (Some c)
    command_law c k = let t = pairs_taken c ps in inl (subst (CommandIs l) (sym t.0) k, t.1)

    room_law : (b : Bool) (c : List ℕ) → leb (length c) room ≡ b → CommandIs l c → Law (kept_of (cond b (Ok (Some c)) (Err 7)))
    room_law true c e k = command_law c k
    room_law false c e k =
        let long : room < length c = leb-false (length c) room e in
        inr (λ d h. let s = sym k.spells ∙ h.spells in let same : c ≡ d = cc in subst (λ x. room < length x) same long, refl)

    spelt_law : (t : utf8 l ≡ true) (o : Option (List ℕ)) → After (codes "command=") (trim_end l) o → Law (kept_of (with_command room o))
    spelt_law t None h = inr (λ c k. absurd (h c k.spells), refl)
    spelt_law t (Some c) h = room_law (leb (length c) room) c refl (record { text = t; spells = sym h })

    text_law : (b : Bool) → utf8 l ≡ b → Law (text_kept room (cond b (Ok (trim_end l)) (Err 22)))
    text_law true t = spelt_law t (after_prefix (codes "command=") (trim_end l)) (after_law (codes "command=") (trim_end l))
    text_law false t = inr (λ c k. let e = sym k.text ∙ t in let z : ◌≡◌ {A = ℕ} 0 1 = cc in absurd (omega arith), refl)

  pub stored_law : (ps : List Pkt) → IsStored rows room ps (stored_in rows room ps)
  stored_law [] = refl
  stored_law (flush ∷ ps) = refl
  stored_law (delimiter ∷ ps) = refl
  stored_law (response_end ∷ ps) = refl
  stored_law (line l ∷ ps) = text_law l ps (utf8 l) refl
