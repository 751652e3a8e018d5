-- The calls of a request, one after another.
use Rattle.std.proofs.Common.{◌≡◌, ℕ, ◌+◌, ◌-◌, ◌≤◌, Bool, true, false, cond, List, [], ◌∷◌, ◌++◌, length, take, drop, Some, None, Ok, Err, Option, Result, sym, refl, ap, ◌∙◌, subst, arith}
use Rattle.std.specs.Option.{option_map}
use Rattle.std.proofs.lemmas.List.{take_at, length-append, length-drop}
use Rattle.std.proofs.lemmas.Slice.{drop-append-drop}
use Rattle.packetline.specs.Metadata.{trim_both, pair_of}
use Rattle.packetline.specs.Packets.{Pkt, flush, delimiter, response_end, line, Decoded, decode, over}
use Rattle.host.specs.declared.fault.LineFault.{LineFault}
use Rattle.host.specs.declared.peer.Peer.{Peer}
use Rattle.host.specs.Peers.{SameLent}
use Rattle.host.specs.Talk.{bytes_sent, bytes_given, Areas, Wire, Got, then, ends, Sight, Talks}
use Rattle.host.proofs.Talking.{talk_then, talk_made}
use Rattle.process.specs.Gather.{Turn, goes, stops}
use Rattle.process.proofs.Packetwise.{given_append, sent_append}
use Rattle.process.proofs.Passes.{decode_append, told_by_talk}
use Rattle.requests.specs.declared.asked.Asked.{Asked}
use Rattle.requests.specs.declared.asked.MetaRow.{MetaRow}
use Rattle.requests.specs.declared.fault.RequestFault.{RequestFault}
use Rattle.requests.specs.declared.fault.RequestFault.TheVariants.{Line, Command, Metadata, Full}
use Rattle.requests.specs.Stored.{Pair, Request, request, and_pair, meta_bytes, bytes_of, used, has_space, counts_of, request_at, Holds}
use Rattle.requests.specs.Requests.{with_meta, read_command, read_meta, meta_then, requested, RequestLaw, turn_kept, meta_kept, behind_kept, stored_in, refused, heard, ReadsCommand, ReadsMeta, ReadsRequest}
use Rattle.requests.proofs.Holding.{holds_shows}
use Rattle.requests.proofs.FirstGiven.{out, bare, first_given, first_command, first_law, kept_out, first_stored}
use Rattle.requests.proofs.Leading.{Outcome}
use Rattle.requests.proofs.Storing.{stored_law}
use Rattle.requests.proofs.MetaGiven.{MetaPassed, NoMeta, meta_passes, told_law}

-- what was read of metadata, with the process that was held before
pub later_meta : {H : Type 0} {p p₁ : Peer H} {n : ℕ} {rows : List MetaRow} {text : List ℕ} {w w' : Sight} {a a' : Areas} {r : Result ℕ RequestFault} {rows' : List MetaRow} {text' : List ℕ}
    → SameLent p p₁ → ReadsMeta n rows text w p₁.process a r w' a' rows' text' → ReadsMeta n rows text w p.process a r w' a' rows' text'
later_meta {n = n} {rows = rows} {text = text} {w = w} {w' = w'} {a = a} {a' = a'} {r = r} {rows' = rows'} {text' = text'} same q =
    subst (λ i. ReadsMeta n rows text w i a r w' a' rows' text') same.process q

-- what was read of the first line, known by an equation
pub first_is : {text : List ℕ} {w : Sight} {p : ℕ} {a : Areas} {o o' : Option ℕ} {w' : Sight} {a' : Areas} {text' : List ℕ} → o ≡ o' → ReadsCommand text w p a (Ok o) w' a' text' → ReadsCommand text w p a (Ok o') w' a' text'
first_is {text = text} {w = w} {p = p} {a = a} {w' = w'} {a' = a'} {text' = text'} e h = subst (λ x. ReadsCommand text w p a (Ok x) w' a' text') e h

-- metadata leaves the command
module _ (rows room : ℕ) where
  turn_command : (c : Turn Request (Result (Option Request) ℕ)) (q : Request) (more : Request → Request) → ((q' : Request) (es : List _) → c ≡ goes q' es → (more q').command ≡ q.command)
      → (turn_kept q c more).command ≡ q.command
  turn_command (goes q' es) q more h = h q' es refl
  turn_command (stops b) q more h = refl

  space_command : (b : Bool) (q : Request) (p : Pair) (more : Request → Request) → ((x : Request) → (more x).command ≡ x.command) → (turn_kept q (cond b (goes (and_pair q p) []) (stops (Err 7))) more).command ≡ q.command
  space_command true q p more h = h (and_pair q p)
  space_command false q p more h = refl

  pair_command : (o : Option Pair) (q : Request) (more : Request → Request) → ((x : Request) → (more x).command ≡ x.command) → (turn_kept q (with_meta rows room q o) more).command ≡ q.command
  pair_command None q more h = refl
  pair_command (Some p) q more h = space_command (has_space rows room q p) q p more h

  kept_command : (ps : List Pkt) (q : Request) → (meta_kept rows room q ps).command ≡ q.command
  kept_command [] q = refl
  kept_command (flush ∷ ps) q = refl
  kept_command (delimiter ∷ ps) q = refl
  kept_command (response_end ∷ ps) q = refl
  kept_command (line l ∷ ps) q = pair_command (pair_of (trim_both l)) q (λ x. meta_kept rows room x ps) (kept_command ps)

over_over : (xs ys area : List ℕ) → length ys ≤ length xs → over xs (over ys area) ≡ over xs area
over_over xs ys area h = ap (λ zs. xs ++ zs) (drop-append-drop (length ys) area ys (length xs) h refl)

asked_same : (a b : Asked) → a.command ≡ b.command → a.pairs ≡ b.pairs → a ≡ b
asked_same a b e f = ap (λ (i : ℕ). record { command = i; pairs = a.pairs }) e ∙ ap (λ (i : ℕ). record { command = b.command; pairs = i }) f

module _ (rows : List MetaRow) (text : List ℕ) (w : Sight) (p : ℕ) (a : Areas) (w₁ : Sight) (a₁ : Areas) where
  abbrev next : Result (Option (List ℕ)) ℕ → Wire → Got (Result (Option Request) ℕ)
  next x v = meta_then (length rows) (length text) x v

  -- No more than a first line

  nothing_held : Holds (request [] []) rows text rows text
  nothing_held = record { rows_are = refl; text_is = refl; rows_for = omega arith; room_for = omega arith }

  said_first : (x : Outcome) → Talks (read_command (length text)) w p a x w₁ a₁ → out x ≡ None → (r : Result (Option Asked) RequestFault) → bare x ≡ heard (option_map (request_at rows text)) r
      → ((b : Asked) → r ≡ Ok (Some b) → ⊥) → ReadsRequest rows text w p a r w₁ a₁ rows text
  said_first x t none r is count =
      let R = length rows in
      let T = length text in
      let y = heard (option_map (request_at rows text)) r in
      let f = first_given T t in
      let e : stored_in R T (decode (bytes_given t.events)).packets ≡ request [] [] = first_stored R T (bytes_sent t.events) (bytes_given t.events) x f none in
      let held : Holds (stored_in R T (decode (bytes_given t.events)).packets) rows text rows text = subst (λ q. Holds q rows text rows text) (sym e) nothing_held in
      record {
        talks = (
          talk_made (λ g. then g next) x y (λ v. bare_ends x none v ∙ ap (λ z. ends z v) is) t,
          subst (RequestLaw R T (bytes_sent t.events) (bytes_given t.events)) is (first_law R T (bytes_given t.events) (bytes_sent t.events) x f none),
        );
        stores =
            record {
              holds = held;
              law = stored_law R T (decode (bytes_given t.events)).packets;
              shows = holds_shows _ rows text rows text held;
              counts = λ b q. absurd (count b q);
            };
      }
    where
      bare_ends : (x : Outcome) → out x ≡ None → (v : Wire) → then (ends x v) next ≡ ends (bare x) v
      bare_ends (Ok (Ok None)) none v = refl
      bare_ends (Ok (Ok (Some d))) none v = let z : ◌≡◌ {A = ℕ} 0 1 = cc in absurd (omega arith)
      bare_ends (Ok (Err n)) none v = refl
      bare_ends (Err e) none v = refl

  module _ (text₁ : List ℕ) where
    pub no_request : ReadsCommand text w p a (Ok None) w₁ a₁ text₁ → ReadsRequest rows text w p a (Ok None) w₁ a₁ rows text₁
    no_request h =
        subst (λ s. ReadsRequest rows text w p a (Ok None) w₁ a₁ rows s) (sym h.lies)
        (said_first (Ok (Ok None)) h.talks refl (Ok None) refl (λ b e. let z : ◌≡◌ {A = ℕ} 0 1 = cc in omega arith))

    error_first : (e : RequestFault) → Talks (read_command (length text)) w p a (refused e) w₁ a₁ → ReadsRequest rows text w p a (Err e) w₁ a₁ rows text
    error_first e t =
        let s = refused_same e in
        said_first (refused e) t s.0 (Err e) s.1 (λ b f. let z : ◌≡◌ {A = ℕ} 0 1 = cc in omega arith)
      where
        refused_same : (e : RequestFault) → (out (refused e) ≡ None) × (bare (refused e) ≡ refused e)
        refused_same (Line f) = (refl, refl)
        refused_same Command = (refl, refl)
        refused_same Metadata = (refl, refl)
        refused_same Full = (refl, refl)

    pub first_error : (r₁ : Result (Option ℕ) RequestFault) → ReadsCommand text w p a r₁ w₁ a₁ text₁ → (e : RequestFault) → r₁ ≡ Err e → (r : Result (Option Asked) RequestFault) → r ≡ Err e
        → ReadsRequest rows text w p a r w₁ a₁ rows text₁
    first_error r₁ h e was r is =
        let k : ReadsCommand text w p a (Err e) w₁ a₁ text₁ = subst (λ x. ReadsCommand text w p a x w₁ a₁ text₁) was h in
        subst (λ x. ReadsRequest rows text w p a x w₁ a₁ rows text₁) (sym is) (subst (λ s. ReadsRequest rows text w p a (Err e) w₁ a₁ rows s) (sym k.lies) (error_first e k.talks))

    -- A first line, and metadata

    module _ (n : ℕ) (h : ReadsCommand text w p a (Ok (Some n)) w₁ a₁ text₁) where
      abbrev c : List ℕ
      c = take n text₁

      lies_same : (length c ≡ n) × (text₁ ≡ over c text) × (length text₁ ≡ length text)
      lies_same =
          let l = h.lies in
          let same : c ≡ l.0 = ap (take n) l.3 ∙ take_at l.0 _ n (sym l.1) in
          let over_is : text₁ ≡ over c text = l.3 ∙ ap (λ xs. over xs text) (sym same) in
          let long : length c ≡ n = ap length same ∙ sym l.1 in
          let size : length text₁ ≡ length c + (length text - length c) = ap length over_is ∙ length-append c (drop (length c) text) ∙ ap (λ i. length c + i) (length-drop (length c) text) in
          (long, over_is, omega (arith, l.2))

      pub command_room : n ≤ length text₁
      command_room = let l = h.lies in let s = lies_same in omega (arith, l.2, s.2)

      module _ (w₂ : Sight) (a₂ : Areas) (rows' : List MetaRow) (text' : List ℕ) where
        abbrev Answer : Result ℕ RequestFault → Result (Result (Option Request) ℕ) LineFault
        Answer r = heard (λ k. Some (request_at rows' text' (record { command = n; pairs = k }))) r

        -- what was read of metadata, where the text area has as many bytes
        abbrev MetaIn : Result ℕ RequestFault → ℕ → Type 0
        MetaIn r T =
            (t : Talks (read_meta (length rows) T (request c [])) w₁ p a₁ (Answer r) w₂ a₂)
            × Holds (meta_kept (length rows) T (request c []) (decode (bytes_given t.events)).packets) rows text₁ rows' text'
            × ((k : ℕ) → r ≡ Ok k → k ≡ length (meta_kept (length rows) T (request c []) (decode (bytes_given t.events)).packets).pairs)

        held_under : (q : Request) → q.command ≡ c → Holds q rows text₁ rows' text' → Holds q rows text rows' text'
        held_under q e k =
            let s = lies_same in
            let long : length c ≤ used q = let l = length-append q.command (meta_bytes q.pairs) in let f = ap length e in omega arith in
            record {
              rows_are = k.rows_are;
              text_is = k.text_is ∙ ap (over (bytes_of q)) s.1 ∙ over_over (bytes_of q) c text long;
              rows_for = k.rows_for;
              room_for = let f = k.room_for in omega (arith, s.2);
            }

        whole : (r₂ : Result ℕ RequestFault) → ReadsMeta n rows text₁ w₁ p a₁ r₂ w₂ a₂ rows' text' → (r : Result (Option Asked) RequestFault) → heard (option_map (request_at rows' text')) r ≡ Answer r₂
            → ((b : Asked) → r ≡ Ok (Some b) → (b.command ≡ n) × (r₂ ≡ Ok b.pairs)) → ReadsRequest rows text w p a r w₂ a₂ rows' text'
        unfolding talk_then
        whole r₂ m r is count =
            let R = length rows in
            let T = length text in
            let s = lies_same in
            let m' : MetaIn r₂ T = subst (MetaIn r₂) s.2 (m.talks, m.holds, m.counts) in
            let t₁ = h.talks in
            let t₂ = m'.0 in
            let given₁ = bytes_given t₁.events in
            let given₂ = bytes_given t₂.events in
            let f = first_command T (bytes_sent t₁.events) given₁ c (first_given T t₁) in
            let q : Request = meta_kept R T (request c []) (decode given₂).packets in
            let t : Talks (requested R T) w p a (Answer r₂) w₂ a₂ = talk_then next (Ok (Some c)) t₁ t₂ in
            let given : bytes_given (t₂.events ++ t₁.events) ≡ given₁ ++ given₂ = given_append t₂.events t₁.events in
            let sent : bytes_sent (t₂.events ++ t₁.events) ≡ bytes_sent t₁.events ++ bytes_sent t₂.events = sent_append t₂.events t₁.events in
            let told = told_by_talk (MetaPassed R T c) (NoMeta R T c) (read_meta R T (request c [])) (meta_passes R T c f.3.room_for) t₂ in
            let law : RequestLaw R T (bytes_sent (t₂.events ++ t₁.events)) (bytes_given (t₂.events ++ t₁.events)) (Answer r₂) =
            subst (λ xs. RequestLaw R T xs (bytes_given (t₂.events ++ t₁.events)) (Answer r₂)) (sym sent)
            (subst (λ xs. RequestLaw R T (bytes_sent t₁.events ++ bytes_sent t₂.events) xs (Answer r₂)) (sym given)
            (told_law R T c (bytes_sent t₁.events) given₁ f.0 f.1 (first_given T t₁).silent f.2 f.3 (bytes_sent t₂.events) given₂ (Answer r₂) told)) in
            let stored : stored_in R T (decode (bytes_given (t₂.events ++ t₁.events))).packets ≡ q =
            ap (λ xs. stored_in R T (decode xs).packets) given
            ∙ ap (λ (d : Decoded). stored_in R T d.packets) (decode_append given₁ given₂ (f.0 ∷ []) f.1)
            ∙ ap (behind_kept R T (decode given₂).packets) (kept_out T f.0 ∙ ap out f.2) in
            let u : (u : Talks (requested R T) w p a (heard (option_map (request_at rows' text')) r) w₂ a₂)
            × RequestLaw R T (bytes_sent u.events) (bytes_given u.events) (heard (option_map (request_at rows' text')) r) × (stored_in R T (decode (bytes_given u.events)).packets ≡ q) =
            subst (λ y. (u : Talks (requested R T) w p a y w₂ a₂) × RequestLaw R T (bytes_sent u.events) (bytes_given u.events) y × (stored_in R T (decode (bytes_given u.events)).packets ≡ q)) (sym is)
            (t, law, stored) in
            let kept : q.command ≡ c = kept_command R T (decode given₂).packets (request c []) in
            let held : Holds q rows text rows' text' = held_under q kept m'.1 in
            record {
              talks = (u.0, u.1);
              stores =
                  record {
                    holds = subst (λ x. Holds x rows text rows' text') (sym u.2) held;
                    law = stored_law R T (decode (bytes_given u.0.events)).packets;
                    shows = subst (λ (x : Request). request_at rows' text' (counts_of x) ≡ x) (sym u.2) (holds_shows q rows text rows' text' held);
                    counts = λ b e.
                        let k = count b e in
                        asked_same b (counts_of q) (k.0 ∙ sym s.0 ∙ ap length (sym kept)) (m'.2 b.pairs k.1) ∙ ap counts_of (sym u.2);
                  };
            }

        pub request_error : (r₂ : Result ℕ RequestFault) → ReadsMeta n rows text₁ w₁ p a₁ r₂ w₂ a₂ rows' text' → (e : RequestFault) → r₂ ≡ Err e → (r : Result (Option Asked) RequestFault) → r ≡ Err e
            → ReadsRequest rows text w p a r w₂ a₂ rows' text'
        request_error r₂ m e was r is =
            whole r₂ m r (ap (heard (option_map (request_at rows' text'))) is ∙ sym (ap Answer was)) (λ b f. let z : ◌≡◌ {A = ℕ} 0 1 = cc in absurd (omega arith))

        pub request_read : (k : ℕ) → ReadsMeta n rows text₁ w₁ p a₁ (Ok k) w₂ a₂ rows' text' → ReadsRequest rows text w p a (Ok (Some (record { command = n; pairs = k }))) w₂ a₂ rows' text'
        request_read k m =
            let b₀ : Asked = record { command = n; pairs = k } in
            whole (Ok k) m (Ok (Some b₀)) refl (λ b e. let same : b₀ ≡ b = cc in (ap (λ (x : Asked). x.command) (sym same), ap (λ (x : Asked). Ok x.pairs) same))
