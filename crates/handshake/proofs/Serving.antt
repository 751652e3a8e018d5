-- The calls of a server's handshake, one after another, and where the versions lie.
use Rattle.std.proofs.Common.{◌≡◌, ℕ, ◌-◌, List, [], ◌∷◌, ◌++◌, length, take, drop, Some, None, Ok, Err, Option, Result, sym, refl, ap, ◌∙◌, subst, arith}
use Rattle.std.proofs.lemmas.List.{append-nil}
use Rattle.slices.specs.declared.name.Name.{Name}
use Rattle.packetline.specs.Packets.{Pkt, flush, delimiter, response_end, line, Decoded, decode, over}
use Rattle.host.specs.declared.fault.LineFault.{LineFault}
use Rattle.host.specs.declared.peer.Peer.{Peer}
use Rattle.host.specs.Worlds.{World}
use Rattle.host.specs.Acts.{Log}
use Rattle.host.specs.Talk.{bytes_sent, bytes_given}
use Rattle.host.specs.Peers.{Does}
use Rattle.host.proofs.Peering.{does_got}
use Rattle.process.specs.Given.{ReadsAs}
use Rattle.process.specs.Peers.{DoesBy}
use Rattle.process.proofs.Passes.{AText, Silent, Untold, decode_append, Told, told_by_talk}
use Rattle.process.proofs.Reading.{DoesGiven, given_then, given_stop, given_so, given_got, does_given, by_does, by_is}
use Rattle.std.specs.Option.{ok_or}
use Rattle.handshake.specs.declared.protocol.Objection.{Objection}
use Rattle.handshake.specs.declared.protocol.Objection.TheVariants.{Mismatch}
use Rattle.handshake.specs.declared.protocol.Refusal.{Refusal}
use Rattle.handshake.specs.declared.protocol.Refusal.TheVariants.{Line, Protocol as Wrong}
use Rattle.handshake.specs.Judged.{if_right, read_judged, heard}
use Rattle.handshake.specs.Servers.{hailed, picked, read_versions, Met, answers_then, pick_then, versions_then, served, offers_in, HoldsOffers, HoldsOn, HoldsLater, ServedLaw}
use Rattle.handshake.proofs.Shakes.{Judged, judged_untold}
use Rattle.handshake.proofs.Serves.{served_told}

-- The welcome

-- one packet at most, and just one where it was judged
abbrev FewGiven : {A : Type 0} → Result A LineFault → List ℕ → Type 0
FewGiven (Ok x) given = (x : Pkt) × ReadsAs given (x ∷ [])
FewGiven (Err e) given = drop 1 (decode given).packets ≡ []

untold_few : (gs : List Pkt) → Untold gs → drop 1 gs ≡ []
untold_few [] h = refl
untold_few (flush ∷ gs) h = absurd h
untold_few (delimiter ∷ gs) h = h
untold_few (response_end ∷ gs) h = h
untold_few (line l ∷ gs) h = h.1

text_one : (t : Option (List ℕ)) (gs ss : List Pkt) → AText gs ss t → (x : Pkt) × (gs ≡ x ∷ [])
text_one None gs ss h = (flush, h.0)
text_one (Some t) gs ss h = (line h.0, h.1)

few_told : {A : Type 0} (judge : Option (List ℕ) → Result A ℕ) (sent given : List ℕ) (r : Result (Result A ℕ) LineFault) → Told (Judged judge) (Silent Untold) sent given r → FewGiven r given
few_told judge sent given (Ok x) (gs, (ss, reads, said, h)) =
    let one = text_one h.0 gs ss h.1 in
    (one.0, reads ∙ ap (λ (ps : List Pkt). record { packets = ps; left = [] }) one.1)
few_told judge sent given (Err e) (gs, (ss, reads, said, h)) = ap (drop 1) reads ∙ untold_few gs h.1

few_given : {H A : Type 0} {log : H → Log} {world : H → World} (judge : Option (List ℕ) → Result A ℕ) {p p' : Peer H} {r : Result (Result A ℕ) LineFault} → Does log world (read_judged judge) p r p'
    → DoesGiven log world (FewGiven r) (read_judged judge) p r p'
few_given judge {r = r} d =
    record {
      lent = d.lent;
      talks = λ status.
          let t = d.talks status in
          (t, few_told judge (bytes_sent t.events) (bytes_given t.events) r (told_by_talk (Judged judge) (Silent Untold) (read_judged judge) (judged_untold judge) t));
    }

-- behind one packet
behind_one : (rows rows' : List ℕ) (given more : List ℕ) (x : Pkt) → ReadsAs given (x ∷ []) → HoldsOffers rows more rows' → HoldsLater rows (given ++ more) rows'
behind_one rows rows' given more x reads h =
    h ∙ ap (λ (d : Decoded). over (offers_in (length rows) (drop 1 d.packets)) rows) (sym (decode_append given more (x ∷ []) reads))

none_behind : (rows given : List ℕ) → drop 1 (decode given).packets ≡ [] → HoldsLater rows given rows
none_behind rows given e = ap (λ (ps : List Pkt). over (offers_in (length rows) ps) rows) (sym e)

one_few : (given : List ℕ) (x : Pkt) → ReadsAs given (x ∷ []) → drop 1 (decode given).packets ≡ []
one_few given x e = ap (λ (d : Decoded). drop 1 d.packets) e

-- The whole

abbrev pub Serves : {H : Type 0} → (H → Log) → (H → World) → List ℕ → List ℕ → (List ℕ → Option ℕ) → List Name → List ℕ → Peer H → Result (Result Met ℕ) LineFault → Peer H → Type 0
Serves log world prefix rows choice names rows' p r p' =
    DoesBy log world (λ sent given x. ServedLaw prefix (length rows) choice names sent given x × HoldsLater rows given rows') (served prefix (length rows) choice names) p r p'

module _ {H : Type 0} {log : H → Log} {world : H → World} (prefix rows : List ℕ) (choice : List ℕ → Option ℕ) (names : List Name) where
  with_law : (rows' : List ℕ) {p p' : Peer H} {r : Result (Result Met ℕ) LineFault} → DoesGiven log world (λ given. HoldsLater rows given rows') (served prefix (length rows) choice names) p r p'
      → Serves log world prefix rows choice names rows' p r p'
  with_law rows' d = record { lent = d.lent; talks = λ status. let t = d.talks status in (t.0, (served_told prefix (length rows) choice names t.0, t.1)) }

  module _ {p p₁ : Peer H} where
    -- the welcome ended it
    pub serve_unhailed : {P X Y : Type 0} (number : P → ℕ) (f : X → Unit {0}) (h : Y → Met) (q : Refusal P) → Does log world (read_judged (hailed prefix)) p (heard number f (Err q)) p₁
        → Serves log world prefix rows choice names rows p (heard number h (Err q)) p₁
    serve_unhailed number f h (Line e) d =
        with_law rows
        (given_stop (if_right (versions_then prefix (length rows) choice names)) (λ given. HoldsLater rows given rows) e
        (given_so (few_given (hailed prefix) d) (λ given k. none_behind rows given k)))
    serve_unhailed number f h (Wrong q) d =
        with_law rows
        (given_then (if_right (versions_then prefix (length rows) choice names)) (λ given. HoldsLater rows given rows) (λ given. drop 1 (decode given).packets ≡ []) (λ more. more ≡ []) (Err (number q))
        (given_so (few_given (hailed prefix) d) (λ given k. one_few given k.0 k.1))
        (given_got (Err (number q)) p₁)
        (λ given more k e. subst (λ b. HoldsLater rows b rows) (sym (append-nil given) ∙ ap (λ b. given ++ b) (sym e)) (none_behind rows given k)))

    module _ (hail : Does log world (read_judged (hailed prefix)) p (Ok (Ok tt)) p₁) {rows' : List ℕ} where
      after_hail : {r : Result (Result Met ℕ) LineFault} {p₃ : Peer H} → DoesGiven log world (λ given. HoldsOffers rows given rows') (versions_then prefix (length rows) choice names tt) p₁ r p₃
          → Serves log world prefix rows choice names rows' p r p₃
      after_hail d =
          with_law rows'
          (given_then (if_right (versions_then prefix (length rows) choice names)) (λ given. HoldsLater rows given rows') (λ given. (x : Pkt) × ReadsAs given (x ∷ [])) (λ given. HoldsOffers rows given rows') (Ok tt)
          (few_given (hailed prefix) hail) d (λ given more k h. behind_one rows rows' given more k.0 k.1 h))

      -- the versions ended it
      pub serve_unoffered : {p₂ : Peer H} {P X Y : Type 0} (number : P → ℕ) (f : X → List ℕ) (h : Y → Met) (q : Refusal P)
          → DoesBy log world (λ _ given r. HoldsOn rows given r rows') (read_versions (length rows)) p₁ (heard number f (Err q)) p₂ → Serves log world prefix rows choice names rows' p (heard number h (Err q)) p₂
      serve_unoffered number f h (Line e) d =
          after_hail (given_stop (if_right (pick_then prefix choice names)) (λ given. HoldsOffers rows given rows') e (by_does (λ given. HoldsOffers rows given rows') d (λ sent given k. k)))
      serve_unoffered {p₂ = p₂} number f h (Wrong q) d =
          after_hail
          (given_then (if_right (pick_then prefix choice names)) (λ given. HoldsOffers rows given rows') (λ given. HoldsOffers rows given rows') (λ more. more ≡ []) (Err (number q))
          (by_does (λ given. HoldsOffers rows given rows') d (λ sent given k. k)) (given_got (Err (number q)) p₂)
          (λ given more k e. subst (λ b. HoldsOffers rows b rows') (sym (append-nil given) ∙ ap (λ b. given ++ b) (sym e)) k))

      -- and what follows them
      pub serve_on : {p₂ : Peer H} (vs : List ℕ) → DoesBy log world (λ _ given r. HoldsOn rows given r rows') (read_versions (length rows)) p₁ (Ok (Ok vs)) p₂ → {r : Result (Result Met ℕ) LineFault} {p₃ : Peer H}
          → Does log world (pick_then prefix choice names vs) p₂ r p₃ → Serves log world prefix rows choice names rows' p r p₃
      serve_on vs d t =
          after_hail
          (given_then (if_right (pick_then prefix choice names)) (λ given. HoldsOffers rows given rows') (λ given. (behind : List ℕ) → HoldsOffers rows (given ++ behind) rows') (λ _. Unit {0}) (Ok vs)
          (by_does (λ given. (behind : List ℕ) → HoldsOffers rows (given ++ behind) rows') d (λ sent given k. k)) (does_given t) (λ given more k u. k more))

-- the first n of the rows
chosen_front : (choice : List ℕ → Option ℕ) (n : ℕ) (rows : List ℕ) → choice (take n rows) ≡ choice (take (n - 0) rows)
chosen_front choice n rows = let z : n ≡ n - 0 = omega arith in ap (λ m. choice (take m rows)) z

-- no version is chosen
pub mismatch_is : (o : Option ℕ) (e : Objection) (r : Result ℕ Objection) → r ≡ ok_or o Mismatch → r ≡ Err e → e ≡ Mismatch
mismatch_is None e r h k = let z : Err e ≡ Err Mismatch = sym k ∙ h in cc
mismatch_is (Some n) e r h k = let z : Err e ≡ Ok n = sym k ∙ h in let w : ◌≡◌ {A = ℕ} 0 1 = cc in absurd (omega arith)

-- What follows a choice, where it answers none, and where it answers a version

module _ {H : Type 0} {log : H → Log} {world : H → World} (prefix : List ℕ) (choice : List ℕ → Option ℕ) (names : List Name) (vs : List ℕ) {p : Peer H} where
  picked_none : choice vs ≡ None → Does log world (pick_then prefix choice names vs) p (Ok (Err 38)) p
  picked_none e = subst (λ o. Does log world (λ v. if_right (answers_then prefix names) (picked o) v) p (Ok (Err 38)) p) (sym e) (does_got (Err 38) p)

  picked_one : (n : ℕ) → choice vs ≡ Some n → {r : Result (Result Met ℕ) LineFault} {p' : Peer H} → Does log world (answers_then prefix names n) p r p' → Does log world (pick_then prefix choice names vs) p r p'
  picked_one n e {r} {p'} d = subst (λ o. Does log world (λ v. if_right (answers_then prefix names) (picked o) v) p r p') (sym e) d

module _ {H : Type 0} {log : H → Log} {world : H → World} (prefix rows : List ℕ) (choice : List ℕ → Option ℕ) (names : List Name) {p p₁ : Peer H} (hail : Does log world (read_judged (hailed prefix)) p (Ok (Ok tt)) p₁) {rows' : List ℕ}
    {p₂ : Peer H} (count : ℕ) (d : DoesBy log world (λ _ given r. HoldsOn rows given r rows') (read_versions (length rows)) p₁ (Ok (Ok (take count rows'))) p₂) where
  -- no version was chosen
  pub serve_mismatched : choice (take (count - 0) rows') ≡ None → Serves log world prefix rows choice names rows' p (Ok (Err 38)) p₂
  serve_mismatched e = serve_on prefix rows choice names hail (take count rows') d (picked_none prefix choice names (take count rows') (chosen_front choice count rows' ∙ e))

  -- a version was chosen
  pub serve_met : (n : ℕ) → choice (take (count - 0) rows') ≡ Some n → {r : Result (Result Met ℕ) LineFault} {p₃ : Peer H} → Does log world (answers_then prefix names n) p₂ r p₃ → Serves log world prefix rows choice names rows' p r p₃
  serve_met n e t = serve_on prefix rows choice names hail (take count rows') d (picked_one prefix choice names (take count rows') n (chosen_front choice count rows' ∙ e) t)

-- the rows as the caller has them back, and an answer known by an equation
pub serves_back : {H : Type 0} {log : H → Log} {world : H → World} (prefix rows : List ℕ) (choice : List ℕ → Option ℕ) (names : List Name) {rows' space' : List ℕ} {p p' : Peer H} {r r' : Result (Result Met ℕ) LineFault}
    → space' ≡ rows' → r' ≡ r → Serves log world prefix rows choice names rows' p r p' → Serves log world prefix rows choice names space' p r' p'
serves_back {log = log} {world = world} prefix rows choice names {p = p} {p' = p'} {r = r} last is d =
    by_is is (subst (λ x. Serves log world prefix rows choice names x p r p') (sym last) d)
