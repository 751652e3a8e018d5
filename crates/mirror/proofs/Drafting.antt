-- A request that lies in its memory.
use Rattle.std.proofs.Common.{◌≡◌, ℕ, ◌+◌, ◌≤◌, min, List, [], ◌++◌, length, take, drop, Some, Ok, Err, Option, Result, sym, refl, ap, ◌∙◌, subst, arith}
use Rattle.std.proofs.lemmas.List.{length-append, length-map, length-take-le, drop_at}
use Rattle.slices.specs.Held.{rows_over}
use Rattle.packetline.specs.Packets.{line, over}
use Rattle.process.specs.Gather.{Turn, goes, stops}
use Rattle.requests.specs.declared.asked.MetaRow.{MetaRow}
use Rattle.requests.specs.declared.fault.RequestFault.{RequestFault}
use Rattle.requests.specs.declared.fault.RequestFault.TheVariants.{Line, Command, Metadata, Full}
use Rattle.requests.specs.Requests.{command_in, meta_step, refused, StoresCommand, LineKept, StoresLine}
use Rattle.requests.specs.Stored.{Request, and_pair, meta_bytes, bytes_of, used, rows_of, pair_at, request_at, Keeping}
use Rattle.requests.proofs.Holding.{holds_sizes, holds_shows}
use Rattle.mirror.specs.declared.draft.Draft.{Draft}
use Rattle.mirror.specs.Drafts.{Commanded, Added}

-- what rows and text show of a request
abbrev pub shown : List MetaRow → List ℕ → ℕ → ℕ → Request
shown rows text command pairs = request_at rows text (record { command = command; pairs = pairs })

-- a request lies so, and its places are within its memory
pub record Lies (rows : List MetaRow) (text : List ℕ) (command pairs at : ℕ) : Type 0 where
  pub rows_long : length rows ≡ 16
  pub text_long : length text ≡ 8192
  pub command_fits : command ≤ 8192
  pub pairs_fit : pairs ≤ 16
  pub used_fits : at ≤ 8192
  pub used_is : at ≡ used (shown rows text command pairs)
  pub rows_lie : rows ≡ rows_over (rows_of command (shown rows text command pairs).pairs) rows
  pub text_lies : text ≡ over (bytes_of (shown rows text command pairs)) text

-- a draft's request does
pub lies_in : (d : Draft) → Lies d.rows d.text d.command d.pairs d.used
lies_in d =
    record {
      rows_long = d.rows_long;
      text_long = d.text_long;
      command_fits = d.command_fits;
      pairs_fit = d.pairs_fit;
      used_fits = d.used_fits;
      used_is = d.used_is;
      rows_lie = d.rows_lie;
      text_lies = d.text_lies;
    }

-- what lies over the front of memory lies over the front of what that makes of it
over_again : {X : Type 0} (new old laid : List X) → laid ≡ new ++ drop (length new) old → laid ≡ new ++ drop (length new) laid
over_again new old laid e = e ∙ ap (λ l. new ++ l) (sym (ap (drop (length new)) e ∙ drop_at new (drop (length new) old) (length new) refl))

module _ (q : Request) (space : List MetaRow) (area : List ℕ) (rows : List MetaRow) (count : ℕ) (text : List ℕ) (at : ℕ) (many : length space ≡ 16) (large : length area ≡ 8192) (k : Keeping q space area rows count text at) where
  pub kept_shows : shown rows text (length q.command) count ≡ q
  kept_shows = ap (shown rows text (length q.command)) k.counted ∙ holds_shows q space area rows text k.holds

  pub kept_lies : Lies rows text (length q.command) count at
  kept_lies =
      let s = holds_sizes q space area rows text k.holds in
      let all : used q ≡ length q.command + length (meta_bytes q.pairs) = length-append q.command (meta_bytes q.pairs) in
      let room : used q ≤ length area = k.holds.room_for in
      let pairs : length q.pairs ≤ length space = k.holds.rows_for in
      let place : at ≡ used q = k.place in
      let counted : count ≡ length q.pairs = k.counted in
      let is = sym kept_shows in
      record {
        rows_long = s.0 ∙ many;
        text_long = s.1 ∙ large;
        command_fits = omega arith;
        pairs_fit = omega arith;
        used_fits = omega arith;
        used_is = place ∙ ap used is;
        rows_lie = over_again (rows_of (length q.command) q.pairs) space rows k.holds.rows_are ∙ ap (λ (x : Request). rows_over (rows_of (length q.command) x.pairs) rows) is;
        text_lies = over_again (bytes_of q) area text k.holds.text_is ∙ ap (λ x. over (bytes_of x) text) is;
      }

-- A line is stored

module _ (rows : List MetaRow) (text : List ℕ) (command pairs at : ℕ) (lies : Lies rows text command pairs at) where
  abbrev q : Request
  q = shown rows text command pairs

  command_is : length q.command ≡ command
  command_is = let t = lies.text_long in let f = lies.command_fits in length-take-le command text (omega arith)

  module _ (held : ℕ) (resumed : held ≡ min pairs (length rows)) where
    resumed_is : held ≡ pairs
    resumed_is = let r = lies.rows_long in let f = lies.pairs_fit in omega arith

    keeping : (pairs_are : pairs ≡ length q.pairs) → Keeping q rows text rows held text at
    keeping pairs_are =
        let r = lies.rows_long in
        let t = lies.text_long in
        let f = lies.pairs_fit in
        let u = lies.used_fits in
        let ui = lies.used_is in
        record {
          holds =
              record {
                rows_are = lies.rows_lie ∙ ap (λ n. rows_over (rows_of n q.pairs) rows) (sym command_is);
                text_is = lies.text_lies;
                rows_for = omega arith;
                room_for = omega arith;
              };
          counted = resumed_is ∙ pairs_are;
          place = ui;
        }

    pairs_are : pairs ≡ length q.pairs
    pairs_are =
        let r = lies.rows_long in
        let f = lies.pairs_fit in
        let m : length q.pairs ≡ length (take pairs rows) = length-map (take pairs rows) (pair_at text) in
        let t : length (take pairs rows) ≡ pairs = length-take-le pairs rows (omega arith) in
        sym (m ∙ t)

    module _ (rows₀ : List MetaRow) (same : rows₀ ≡ rows) (l : List ℕ) (r : Result ℕ RequestFault) (rows' : List MetaRow) (count' : ℕ) (text' : List ℕ) (stores : StoresLine at rows₀ held text l r rows' count' text') where
      done : LineKept q rows text l at r rows' count' text'
      done = (subst (λ (rs : List MetaRow). StoresLine at rs held text l r rows' count' text') same stores) q rows text (keeping pairs_are)

      judged : (t : Turn Request (Result (Option Request) ℕ)) → meta_step (length rows) (length text) q (line l) ≡ t → meta_step 16 8192 q (line l) ≡ t
      judged t e = ap (λ n. meta_step n 8192 q (line l)) (sym lies.rows_long) ∙ ap (λ n. meta_step (length rows) n q (line l)) (sym lies.text_long) ∙ e

      module _ (behind : ℕ) (went : r ≡ Ok behind) where
        ok : LineKept q rows text l at (Ok behind) rows' count' text'
        ok = subst (λ x. LineKept q rows text l at x rows' count' text') went done

        pub more_lies : Lies rows' text' command count' behind
        more_lies = subst (λ n. Lies rows' text' n count' behind) command_is (kept_lies (and_pair q ok.0) rows text rows' count' text' behind lies.rows_long lies.text_long ok.2)

        pub more_added : (x : Unit {0}) → Added q l (Ok x) (shown rows' text' command count')
        more_added x =
            judged (goes (and_pair q ok.0) []) ok.1
            ∙ ap (λ (y : Request). goes y [])
            (sym (ap (λ n. shown rows' text' n count') (sym command_is) ∙ kept_shows (and_pair q ok.0) rows text rows' count' text' behind lies.rows_long lies.text_long ok.2))

      module _ (e : RequestFault) (failed : r ≡ Err e) where
        err : LineKept q rows text l at (Err e) rows' count' text'
        err = subst (λ x. LineKept q rows text l at x rows' count' text') failed done

        count_same : count' ≡ pairs
        count_same = err.3.counted ∙ sym pairs_are

        pub same_lies : Lies rows' text' command pairs at
        same_lies =
            subst (λ n. Lies rows' text' command n at) count_same (subst (λ n. Lies rows' text' n count' at) command_is (kept_lies q rows text rows' count' text' at lies.rows_long lies.text_long err.3))

        pub same_added : (x : Result (Unit {0}) RequestFault) → x ≡ Err e → (q' : Request) → Added q l x q'
        same_added x is q' = subst (λ y. Added q l y q') (sym is) (err.0, judged (stops (Err err.0)) err.1)

-- a line that has no command, or one that finds no room
uncommanded_by : (e : RequestFault) (l : List ℕ) → refused {A = Option (List ℕ)} e ≡ Ok (command_in 8192 (Some l)) → (n : ℕ) × (command_in 8192 (Some l) ≡ Err n)
uncommanded_by (Line x) l h = let z : ◌≡◌ {A = ℕ} 0 1 = cc in absurd (omega arith)
uncommanded_by Command l h = (39, cc)
uncommanded_by Metadata l h = (40, cc)
uncommanded_by Full l h = (7, cc)

pub uncommanded : (text l text' : List ℕ) → length text ≡ 8192 → (r : Result ℕ RequestFault) → StoresCommand text l r text' → (e : RequestFault) → r ≡ Err e
    → (x : Result (Unit {0}) RequestFault) → x ≡ Err e → (q' : Request) → Commanded l x q'
uncommanded text l text' long r stores e failed x is q' =
    let s = subst (λ y. StoresCommand text l y text') failed stores in
    subst (λ y. Commanded l y q') (sym is) (uncommanded_by e l (s.0 ∙ ap (λ n. Ok (command_in n (Some l))) long))
