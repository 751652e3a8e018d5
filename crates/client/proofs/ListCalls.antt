-- The calls of a listing, one after another.
use Rattle.std.proofs.Common.{◌≡◌, ℕ, Bool, true, false, not, is_some, ltb, List, [], ◌∷◌, ◌++◌, length, Some, None, Ok, Err, Result, sym, refl, ap, ◌∙◌, subst, arith}
use Rattle.std.proofs.lemmas.List.{append-nil}
use Rattle.slices.specs.Answers.{told}
use Rattle.packetline.specs.Packets.{Pkt, flush}
use Rattle.host.specs.declared.fault.LineFault.{LineFault}
use Rattle.host.specs.declared.peer.Peer.{Peer}
use Rattle.host.specs.Worlds.{World}
use Rattle.host.specs.Acts.{Log}
use Rattle.host.specs.Peers.{seen, SameLent}
use Rattle.process.specs.declared.area.StatusArea.{StatusArea}
use Rattle.host.specs.Talk.{Event, bytes_sent, bytes_given, Areas, areas, then, send_all, Sight, sight, Talks}
use Rattle.host.proofs.Talking.{talk_then, talk_stop}
use Rattle.process.specs.declared.status.Status.{Status}
use Rattle.client.specs.declared.paths.Kept.{Kept}
use Rattle.client.specs.declared.paths.PathRow.{PathRow}
use Rattle.client.specs.declared.listing.Listed.{Listed}
use Rattle.client.specs.declared.listing.ListFault.{ListFault}
use Rattle.client.specs.declared.listing.ListFault.TheVariants.{Full, Line}
use Rattle.process.specs.Given.{ReadsAs}
use Rattle.process.specs.Statuses.{read_status, first}
use Rattle.client.specs.Paths.{paths_named, fitting, most, Stored}
use Rattle.client.specs.Requests.{as_first, first_status, status_then}
use Rattle.client.specs.Listings.{list_request, read_lines, lines_then, named_in, Counts, Stores, ReadsPaths, Lists}
use Rattle.process.proofs.Passes.{AllSent, NoneGiven, send_all_passes, Told, told_by_talk}
use Rattle.process.proofs.Tellings.{NoStatusPassed}
use Rattle.client.proofs.Keeps.{keeping_none}
use Rattle.client.proofs.Listings.{LinesPassed, lines_passes, list_talk}
use Rattle.process.proofs.Packetwise.{given_append}
use Rattle.client.proofs.ListNames.{named_ended, named_after}
use Rattle.client.proofs.ListLoop.{stores_by}

-- where the same paths are named the same is stored
stores_same : (given given' : List ℕ) (rows : List PathRow) (text : List ℕ) (r : Result Counts LineFault) (rows' : List PathRow) (text' : List ℕ)
    → named_in given ≡ named_in given' → Stores given rows text r rows' text' → Stores given' rows text r rows' text'
stores_same given given' rows text r rows' text' e s =
    record {
      many = s.many;
      stored = subst (λ n. Stored n rows text s.many rows' text') e s.stored;
      counts = λ c q.
          subst (λ n. (c.named ≡ most (length n)) × (c.stored ≡ s.many) × (c.full ≡ ltb (length (fitting (length rows) (length text) n)) (length n))) e (s.counts c q);
    }

-- a fault is no answer
stores_lost : (given : List ℕ) (rows : List PathRow) (text : List ℕ) (r : Result Counts LineFault) (rows' : List PathRow) (text' : List ℕ) (e : LineFault)
    → Stores given rows text r rows' text' → Stores given rows text (Err e) rows' text'
stores_lost given rows text r rows' text' e s = record { many = s.many; stored = s.stored; counts = λ c q. let z : ◌≡◌ {A = ℕ} 0 1 = cc in absurd (omega arith) }

-- what was read of the paths, with the process that was held before
pub later_paths : {H : Type 0} {p p₁ : Peer H} {rows : List PathRow} {text : List ℕ} {w w' : Sight} {a a' : Areas} {r : Result (Kept × ℕ) LineFault} {rows' : List PathRow} {text' : List ℕ}
    → SameLent p p₁ → ReadsPaths rows text w p₁.process a r w' a' rows' text' → ReadsPaths rows text w p.process a r w' a' rows' text'
later_paths {rows = rows} {text = text} {w = w} {w' = w'} {a = a} {a' = a'} {r = r} {rows' = rows'} {text' = text'} same q =
    subst (λ n. ReadsPaths rows text w n a r w' a' rows' text') same.process q

-- what a caller knows of the host and the areas that he lent, once the peer is gone
pub back_lists : {H : Type 0} (log : H → Log) (world : H → World) (p' : Peer H) (s' : StatusArea) {rows : List PathRow} {text : List ℕ} {w : Sight} {n : ℕ} {a : Areas} {r : Result Listed ListFault} {rows' : List PathRow}
    {text' : List ℕ} (host : H) (work status : List ℕ) → Lists rows text w n a r (seen log world p') (areas p'.work.now s'.bytes.now) rows' text' → host ≡ p'.host.now → work ≡ p'.work.now → status ≡ s'.bytes.now
    → Lists rows text w n a r (sight (log host) (world host)) (areas work status) rows' text'
back_lists log world p' s' {rows} {text} {w} {n} {a} {r} {rows'} {text'} host work status q h k e =
    subst (λ x. Lists rows text w n a r (sight (log x) (world x)) (areas work status) rows' text') (sym h)
    (subst (λ x. Lists rows text w n a r (seen log world p') (areas x status) rows' text') (sym k)
    (subst (λ x. Lists rows text w n a r (seen log world p') (areas p'.work.now x) rows' text') (sym e) q))

-- What each call gave

sent_none : (sent given : List ℕ) (u : Unit {0}) → Told (AllSent list_request) NoneGiven sent given (Ok u) → ReadsAs given []
sent_none sent given u (gs, (ss, reads, said, h)) = reads ∙ ap (λ (ps : List Pkt). record { packets = ps; left = [] }) h.0

refused_none : (sent given : List ℕ) (e : LineFault) → Told {A = Unit {0}} (AllSent list_request) NoneGiven sent given (Err e) → named_in given ≡ []
refused_none sent given e (gs, (ss, reads, said, h)) = ap paths_named (reads ∙ h)

lines_ended : (sent given more : List ℕ) (u : Unit {0}) → Told LinesPassed NoStatusPassed sent given (Ok u) → named_in (given ++ more) ≡ named_in given
lines_ended sent given more u (gs, (ss, reads, said, h)) =
    let hs = h.1.0 in
    let ends : ReadsAs given (hs ++ flush ∷ []) = reads ∙ ap (λ (ps : List Pkt). record { packets = ps; left = [] }) h.1.2 in
    named_ended given more hs h.1.1 ends ∙ sym (named_ended given [] hs h.1.1 ends) ∙ ap named_in (append-nil given)

-- a status with none before it, as it is read
first_talk : {w : Sight} {p : ℕ} {a : Areas} {w' : Sight} {a' : Areas} (r : Result Status LineFault) → Talks read_status w p a r w' a' → Talks first_status w p a (told first (λ f. f) r) w' a'
first_talk (Ok s) t =
    record {
      events = t.events;
      goes = λ rest. let l = t.goes rest in (l.0, λ past. ap (λ y. then y as_first) (l.1 past));
      others = t.others;
      laid = t.laid;
      acts = t.acts;
      acted = t.acted;
      grows = t.grows;
    }
first_talk (Err e) t = talk_stop as_first e t

-- The whole

module _ (rows : List PathRow) (text : List ℕ) (w : Sight) (p : ℕ) (a : Areas) (w₁ : Sight) (a₁ : Areas) where
  pub list_refused : (r : Result Listed ListFault) (e : LineFault) → Talks (send_all list_request) w p a (Err e) w₁ a₁ → r ≡ Err (Line e) → Lists rows text w p a r w₁ a₁ rows text
  unfolding talk_stop
  list_refused r e s is =
      let t = talk_stop lines_then e s in
      let none = refused_none (bytes_sent s.events) (bytes_given s.events) e (told_by_talk (AllSent list_request) NoneGiven (send_all list_request) (send_all_passes list_request) s) in
      subst (λ x. Lists rows text w p a x w₁ a₁ rows text) (sym is)
      (record {
        talks = (t, list_talk t);
        stores = stores_by (bytes_given s.events) [] rows rows text (record { named = 0; next = Some 0 }) rows rows 0 text (Err e) none (keeping_none rows text) refl refl
            (λ c q. let z : ◌≡◌ {A = ℕ} 0 1 = cc in absurd (omega arith));
      })

  module _ (u : Unit {0}) (s : Talks (send_all list_request) w p a (Ok u) w₁ a₁) (w₂ : Sight) (a₂ : Areas) (rows' : List PathRow) (text' : List ℕ) where
    -- what was sent gave nothing
    after_sent : (es : List Event) → named_in (bytes_given es) ≡ named_in (bytes_given (es ++ s.events))
    after_sent es =
        sym (ap named_in (given_append es s.events)
        ∙ named_after (bytes_given s.events) (bytes_given es)
        (sent_none (bytes_sent s.events) (bytes_given s.events) u (told_by_talk (AllSent list_request) NoneGiven (send_all list_request) (send_all_passes list_request) s)))

    pub list_lost : (r : Result Listed ListFault) (e : LineFault) → ReadsPaths rows text w₁ p a₁ (Err e) w₂ a₂ rows' text' → r ≡ Err (Line e) → Lists rows text w p a r w₂ a₂ rows' text'
    unfolding talk_then talk_stop
    list_lost r e q is =
        let t = talk_then lines_then u s (talk_stop status_then e q.talks) in
        subst (λ x. Lists rows text w p a x w₂ a₂ rows' text') (sym is)
        (record {
          talks = (t, list_talk t);
          stores = stores_same (bytes_given q.talks.events) (bytes_given (q.talks.events ++ s.events)) rows text (Err e) rows' text' (after_sent q.talks.events) q.stores;
        })

    module _ (k : Kept) (n : ℕ) (q : ReadsPaths rows text w₁ p a₁ (Ok (k, n)) w₂ a₂ rows' text') (w₃ : Sight) (a₃ : Areas) where
      -- what follows the flush names nothing
      after_lines : (es : List Event) → named_in (bytes_given q.talks.events) ≡ named_in (bytes_given ((es ++ q.talks.events) ++ s.events))
      after_lines es =
          let given = bytes_given q.talks.events in
          sym (lines_ended (bytes_sent q.talks.events) given (bytes_given es) tt (told_by_talk LinesPassed NoStatusPassed read_lines lines_passes q.talks))
          ∙ ap named_in (sym (given_append es q.talks.events))
          ∙ after_sent (es ++ q.talks.events)

      pub list_untold : (r : Result Listed ListFault) (e : LineFault) → Talks read_status w₂ p a₂ (Err e) w₃ a₃ → r ≡ Err (Line e) → Lists rows text w p a r w₃ a₃ rows' text'
      unfolding talk_then
      list_untold r e f is =
          let h = first_talk (Err e) f in
          let t = talk_then lines_then u s (talk_then status_then tt q.talks h) in
          subst (λ x. Lists rows text w p a x w₃ a₃ rows' text') (sym is)
          (record {
            talks = (t, list_talk t);
            stores = stores_same (bytes_given q.talks.events) (bytes_given ((h.events ++ q.talks.events) ++ s.events)) rows text (Err e) rows' text' (after_lines h.events)
                (stores_lost (bytes_given q.talks.events) rows text _ rows' text' e q.stores);
          })

      abbrev told_as : Status → Listed
      told_as x = record { status = x; named = k.named; stored = n }

      -- an answer, where each path found space, and where one did not
      module _ (s₀ s₁ : Status) (f : Talks read_status w₂ p a₂ (Ok s₀) w₃ a₃) (is : s₁ ≡ first s₀) where
        pub list_told : (at : ℕ) → k.next ≡ Some at → Lists rows text w p a (Ok (told_as s₁)) w₃ a₃ rows' text'
        unfolding talk_then
        list_told at e =
            let h = first_talk (Ok s₀) f in
            let t = talk_then lines_then u s (talk_then status_then tt q.talks h) in
            let c : Counts = record { named = k.named; stored = n; full = false } in
            subst (λ (x : Status). Lists rows text w p a (Ok (told_as x)) w₃ a₃ rows' text') (sym is)
            (record {
              talks = (t, list_talk t);
              stores = stores_same (bytes_given q.talks.events) (bytes_given ((h.events ++ q.talks.events) ++ s.events)) rows text (Ok c) rows' text' (after_lines h.events)
                  (subst (λ (b : Bool). Stores (bytes_given q.talks.events) rows text (Ok (record { named = k.named; stored = n; full = b })) rows' text') (ap (λ o. not (is_some o)) e) q.stores);
            })

        pub list_full : k.next ≡ None → Lists rows text w p a (Err (Full (told_as s₁))) w₃ a₃ rows' text'
        unfolding talk_then
        list_full e =
            let h = first_talk (Ok s₀) f in
            let t = talk_then lines_then u s (talk_then status_then tt q.talks h) in
            let c : Counts = record { named = k.named; stored = n; full = true } in
            subst (λ (x : Status). Lists rows text w p a (Err (Full (told_as x))) w₃ a₃ rows' text') (sym is)
            (record {
              talks = (t, list_talk t);
              stores = stores_same (bytes_given q.talks.events) (bytes_given ((h.events ++ q.talks.events) ++ s.events)) rows text (Ok c) rows' text' (after_lines h.events)
                  (subst (λ (b : Bool). Stores (bytes_given q.talks.events) rows text (Ok (record { named = k.named; stored = n; full = b })) rows' text') (ap (λ o. not (is_some o)) e) q.stores);
            })
