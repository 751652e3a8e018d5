-- The loop that reads a listing's paths.
use Rattle.std.proofs.Common.{◌≡◌, ℕ, ◌+◌, ◌≤◌, Bool, not, ltb, List, [], ◌∷◌, ◌++◌, length, take, is_some, IfSome, Some, None, Ok, Err, Option, Result, sym, refl, ap, ◌∙◌, subst, arith}
use Rattle.std.proofs.lemmas.List.{append-nil}
use Rattle.packetline.specs.declared.packet.Packet.{Packet}
use Rattle.packetline.specs.declared.packet.Packet.TheVariants.{Flush, Delimiter, ResponseEnd, Data}
use Rattle.packetline.specs.Packets.{Pkt, flush, delimiter, response_end, line, flush_one, flushes_of}
use Rattle.packetline.specs.Lines.{kind_of}
use Rattle.host.specs.declared.fault.LineFault.{LineFault}
use Rattle.host.specs.Talk.{Event, bytes_given, Areas, areas, read, shown, Sight, Talks, Works}
use Rattle.host.proofs.Talking.{talk_is}
use Rattle.client.specs.declared.paths.Kept.{Kept}
use Rattle.client.specs.declared.paths.PathRow.{PathRow}
use Rattle.process.specs.Gather.{goes}
use Rattle.process.specs.Given.{ReadsAs}
use Rattle.client.specs.Paths.{path_in, listed, paths_named, fitting, most, Stored, Keeping, KeepsLine}
use Rattle.client.specs.Listings.{lines_step, read_lines, named_in, Counts, Stores, kept_counts, ReadsPaths}
use Rattle.process.proofs.Gathers.{Left, left_first, left_fault, left_stop, left_more, read_falls}
use Rattle.process.proofs.Passes.{decode_empty}
use Rattle.process.proofs.Tellings.{flushes_append}
use Rattle.client.proofs.Keeps.{keeping_none, keeping_room, keeping_stored, keeping_full}
use Rattle.process.proofs.Packetwise.{reads_more, reads_none}
use Rattle.client.proofs.ListNames.{named_push, named_flush}

-- what was kept of the paths named in what was given
pub stores_by : (given : List ℕ) (named : List (List ℕ)) (rows lent : List PathRow) (text : List ℕ) (notes : Kept) (rows' after : List PathRow) (count : ℕ) (text' : List ℕ) (r : Result Counts LineFault)
    → named_in given ≡ named → Keeping named rows text notes rows' count text' → rows ≡ lent → after ≡ rows'
    → ((c : Counts) → r ≡ Ok c → (c.named ≡ notes.named) × (c.stored ≡ count) × (c.full ≡ not (is_some notes.next))) → Stores given lent text r after text'
stores_by given named rows lent text notes rows' after count text' r e k re ae is =
    let full : List PathRow → List (List ℕ) → Bool = λ l n. ltb (length (fitting (length l) (length text) n)) (length n) in
    record {
      many = count;
      stored = subst (λ n. Stored n lent text count after text') (sym e) (keeping_stored named rows text notes rows' count text' k lent after count re ae refl);
      counts = λ c q.
          let h = is c q in (
            h.0 ∙ k.counted ∙ ap (λ n. most (length n)) (sym e),
            h.1,
            h.2 ∙ keeping_full named rows text notes rows' count text' k ∙ ap (λ l. full l named) re ∙ ap (full lent) (sym e),
          );
    }

-- after these events: packets without a flush were read, and what they name is kept
pub record SoFar (es : List Event) (rows : List PathRow) (text : List ℕ) (notes : Kept) (rows' : List PathRow) (count : ℕ) (text' : List ℕ) : Type 0 where
  pub before : List Pkt
  pub reads : ReadsAs (bytes_given es) before
  pub no_flush : flushes_of before ≡ 0
  pub keeps : Keeping (paths_named before) rows text notes rows' count text'

-- what is left of a listing's lines
abbrev pub LinesLeft : List PathRow → List ℕ → Sight → ℕ → Areas → Kept → List PathRow → ℕ → List ℕ → Sight → Areas → Type 0
LinesLeft rows text w p a notes rows' count text' w₀ a₀ = (es : List Event) × Left read lines_step tt es w p a read_lines w₀ a₀ × SoFar es rows text notes rows' count text'

pub lines_first : (rows : List PathRow) (text : List ℕ) (w : Sight) (p : ℕ) (a : Areas) (count : ℕ) → count ≡ 0
    → LinesLeft rows text w p a (record { named = 0; next = Some 0 }) rows count text w a
lines_first rows text w p a count e =
    let none : Kept = record { named = 0; next = Some 0 } in (
      [],
      left_first read lines_step tt w p a,
      record { before = []; reads = decode_empty; no_flush = refl; keeps = subst (λ n. Keeping [] rows text none rows n text) (sym e) (keeping_none rows text) },
    )

module _ (rows : List PathRow) (text : List ℕ) (w : Sight) (p : ℕ) (work status : List ℕ) (notes : Kept) (rows' : List PathRow) (count : ℕ) (text' : List ℕ) (w₀ : Sight) (work₀ : List ℕ)
    (so : LinesLeft rows text w p (areas work status) notes rows' count text' w₀ (areas work₀ status)) (w₁ : Sight) (work₁ : List ℕ) where
  pub paths_fault : (lent after : List PathRow) → rows ≡ lent → after ≡ rows' → (r : Result (Kept × ℕ) LineFault) (e : LineFault) → Works read w p work (Err e) w₁ work₁ → r ≡ Err e
      → ReadsPaths lent text w₀ p (areas work₀ status) r w₁ (areas work₁ status) after text'
  paths_fault lent after re ae r e s is =
      let t = s status in
      let u = left_fault read lines_step tt w p (areas work status) read_lines w₀ (areas work₀ status) w₁ (areas work₁ status) so.1 e t in
      let named : named_in (bytes_given u.0.events) ≡ paths_named so.2.before =
      ap (λ es. named_in (bytes_given es)) u.1 ∙ ap paths_named (reads_none so.0 so.2.before so.2.reads e t) in
      subst (λ x. ReadsPaths lent text w₀ p (areas work₀ status) x w₁ (areas work₁ status) after text') (sym is)
      (record {
        talks = u.0;
        stores = stores_by (bytes_given u.0.events) (paths_named so.2.before) rows lent text notes rows' after count text' (Err e) named so.2.keeps re ae
            (λ c q. let z : ◌≡◌ {A = ℕ} 0 1 = cc in absurd (omega arith));
      })

  paths_more : (x : Pkt) → lines_step tt x ≡ goes tt [] → flush_one x ≡ 0 → Talks read w p (areas work status) (Ok x) w₁ (areas work₁ status)
      → (notes₁ : Kept) (rows₁ : List PathRow) (count₁ : ℕ) (text₁ : List ℕ)
      → ((named : List (List ℕ)) → Keeping named rows text notes rows' count text' → Keeping (named ++ paths_named (x ∷ [])) rows text notes₁ rows₁ count₁ text₁)
      → LinesLeft rows text w₁ p (areas work₁ status) notes₁ rows₁ count₁ text₁ w₀ (areas work₀ status)
  paths_more x passes none t notes₁ rows₁ count₁ text₁ on =
      let hs = so.2.before in
      let f = flushes_append hs (x ∷ []) in
      let o : flushes_of (x ∷ []) ≡ flush_one x + 0 = refl in
      let z = so.2.no_flush in (
        t.events ++ so.0,
        left_more read lines_step tt w p (areas work status) read_lines w₀ (areas work₀ status) w₁ (areas work₁ status) so.1 x tt [] (areas work₁ status) t passes refl refl (read_falls t),
        record {
          before = hs ++ x ∷ [];
          reads = reads_more so.0 hs so.2.reads x t;
          no_flush = omega arith;
          keeps = subst (λ n. Keeping n rows text notes₁ rows₁ count₁ text₁) (sym (named_push hs x z)) (on (paths_named hs) so.2.keeps);
        },
      )

  module _ (k : Packet ℕ) (s : Works read w p work (shown work₁ (Ok k)) w₁ work₁) where
    pub paths_end : (lent after : List PathRow) → rows ≡ lent → after ≡ rows' → k ≡ Flush → (n : ℕ) → n ≡ count
        → ReadsPaths lent text w₀ p (areas work₀ status) (Ok (notes, n)) w₁ (areas work₁ status) after text'
    paths_end lent after re ae e n ne =
        let t = talk_is (ap (λ x. shown work₁ (Ok x)) (sym e)) (s status) in
        let u = left_stop read lines_step tt w p (areas work status) read_lines w₀ (areas work₀ status) w₁ (areas work₁ status) so.1 flush tt t refl in
        let hs = so.2.before in
        let c : Counts = kept_counts (notes, n) in
        let named : named_in (bytes_given u.0.events) ≡ paths_named hs =
        ap (λ es. named_in (bytes_given es)) u.1 ∙ ap (λ d. paths_named d.packets) (reads_more so.0 hs so.2.reads flush t) ∙ named_flush hs [] so.2.no_flush in
        record {
          talks = u.0;
          stores = stores_by (bytes_given u.0.events) (paths_named hs) rows lent text notes rows' after count text' (Ok c) named so.2.keeps re ae
              (λ d q. let same : c ≡ d = cc in subst (λ (x : Counts). (x.named ≡ notes.named) × (x.stored ≡ count) × (x.full ≡ not (is_some notes.next))) same (refl, ne, refl));
        }

    pub paths_line : (n : ℕ) → k ≡ Data n → (part : List ℕ) → part ≡ take n work₁ → (notes₁ : Kept) (rows₁ : List PathRow) (count₁ : ℕ) (text₁ : List ℕ)
        → KeepsLine notes rows' count text' (path_in (kind_of part)) notes₁ rows₁ count₁ text₁
        → LinesLeft rows text w₁ p (areas work₁ status) notes₁ rows₁ count₁ text₁ w₀ (areas work₀ status)
    paths_line n e part front notes₁ rows₁ count₁ text₁ on =
        let l = take n work₁ in
        let names : listed (path_in (kind_of part)) ≡ paths_named (line l ∷ []) = ap (λ m. listed (path_in (kind_of m))) front ∙ sym (append-nil (listed (path_in (kind_of l)))) in
        paths_more (line l) refl refl (talk_is (ap (λ x. shown work₁ (Ok x)) (sym e)) (s status)) notes₁ rows₁ count₁ text₁
        (λ named was. subst (λ ps. Keeping (named ++ ps) rows text notes₁ rows₁ count₁ text₁) names (on named rows text was))

    pub paths_marker : (k ≡ Flush → ⊥) → ((n : ℕ) → k ≡ Data n → ⊥) → LinesLeft rows text w₁ p (areas work₁ status) notes rows' count text' w₀ (areas work₀ status)
    paths_marker not-flush not-data = passed_over k refl
      where
        same : (named : List (List ℕ)) → Keeping named rows text notes rows' count text' → Keeping (named ++ []) rows text notes rows' count text'
        same named was = subst (λ ps. Keeping ps rows text notes rows' count text') (sym (append-nil named)) was

        passed_over : (x : Packet ℕ) → k ≡ x → LinesLeft rows text w₁ p (areas work₁ status) notes rows' count text' w₀ (areas work₀ status)
        passed_over Flush e = absurd (not-flush e)
        passed_over Delimiter e = paths_more delimiter refl refl (talk_is (ap (λ x. shown work₁ (Ok x)) (sym e)) (s status)) notes rows' count text' same
        passed_over ResponseEnd e = paths_more response_end refl refl (talk_is (ap (λ x. shown work₁ (Ok x)) (sym e)) (s status)) notes rows' count text' same
        passed_over (Data n) e = absurd (not-data n e)

-- the next place lies in the text area
pub lines_room : (rows : List PathRow) (text : List ℕ) (w : Sight) (p : ℕ) (a : Areas) (notes : Kept) (rows' : List PathRow) (count : ℕ) (text' : List ℕ) (w₀ : Sight) (a₀ : Areas)
    → LinesLeft rows text w p a notes rows' count text' w₀ a₀ → IfSome notes.next (λ at. at ≤ length text')
lines_room rows text w p a notes rows' count text' w₀ a₀ so = within notes.next (keeping_room (paths_named so.2.before) rows text notes rows' count text' so.2.keeps)
  where
    within : (o : Option ℕ) → ((at : ℕ) → o ≡ Some at → at ≤ length text') → IfSome o (λ at. at ≤ length text')
    within None h = tt
    within (Some at) h = h at refl
