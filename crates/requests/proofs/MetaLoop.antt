-- The loop that reads the metadata of a request.
use Rattle.std.proofs.Common.{◌≡◌, ℕ, ◌≤◌, List, [], ◌∷◌, ◌++◌, length, take, drop, Some, Ok, Err, Option, Result, sym, refl, ap, ◌∙◌, subst, arith}
use Rattle.std.proofs.lemmas.List.{append-nil, append_assoc, length-take, take-append-drop}
use Rattle.packetline.specs.declared.packet.Packet.{Packet}
use Rattle.packetline.specs.declared.packet.Packet.TheVariants.{Flush, Delimiter, ResponseEnd, Data}
use Rattle.packetline.specs.Packets.{Pkt, flush, delimiter, response_end, line, Decoded, decode, over}
use Rattle.host.specs.declared.fault.LineFault.{LineFault}
use Rattle.host.specs.Talk.{Event, bytes_given, Areas, areas, Wire, Got, read, shown, Sight, Talks, Works}
use Rattle.host.proofs.Talking.{talk_is}
use Rattle.process.specs.Gather.{Turn, stops}
use Rattle.process.specs.Given.{ReadsAs}
use Rattle.process.proofs.Gathers.{Left, left_first, left_fault, left_stop, left_more, read_falls}
use Rattle.process.proofs.Packetwise.{reads_more, reads_none}
use Rattle.process.proofs.Passes.{decode_empty}
use Rattle.requests.specs.declared.asked.MetaRow.{MetaRow}
use Rattle.requests.specs.declared.fault.RequestFault.{RequestFault}
use Rattle.requests.specs.declared.fault.RequestFault.TheVariants.{Line, Metadata}
use Rattle.requests.specs.Stored.{Request, and_pair, request_at, Holds, Keeping}
use Rattle.requests.specs.Requests.{meta_step, read_meta, turn_kept, meta_kept, heard, LineKept, StoresLine, command_at, ReadsMeta}
use Rattle.requests.proofs.Holding.{holds_sizes, holds_shows}

-- after these events: packets were read, and what they ask is asked
record SoFar (rows room : ℕ) (q₀ : Request) (es : List Event) (q : Request) : Type 0 where
  before : List Pkt
  reads : ReadsAs (bytes_given es) before
  goes_on : (more : List Pkt) → meta_kept rows room q₀ (before ++ more) ≡ meta_kept rows room q more
  same : q.command ≡ q₀.command

-- what is left of the lines behind a command of n bytes
pub record MetaLeft (n : ℕ) (rows : List MetaRow) (text : List ℕ) (w : Sight) (p : ℕ) (a : Areas) (rows' : List MetaRow) (count : ℕ) (text' : List ℕ) (at : ℕ) (w₀ : Sight) (a₀ : Areas) : Type 0 where
  events : List Event
  asked : Request
  left : Left read (meta_step (length rows) (length text)) asked events w p a (read_meta (length rows) (length text) (command_at n text)) w₀ a₀
  so_far : SoFar (length rows) (length text) (command_at n text) events asked
  keeps : Keeping asked rows text rows' count text' at

command_lies : (n : ℕ) (text : List ℕ) → n ≤ length text → text ≡ over (take n text ++ []) text
command_lies n text h =
    let long : n ≡ length (take n text) = omega (arith, length-take n text) in
    sym (ap (λ xs. over xs text) (append-nil (take n text)) ∙ ap (λ m. take n text ++ drop m text) (sym long) ∙ take-append-drop n text)

pub meta_first : (n : ℕ) (rows : List MetaRow) (text : List ℕ) (w : Sight) (p : ℕ) (a : Areas) (count : ℕ) → n ≤ length text → count ≡ 0 → MetaLeft n rows text w p a rows count text n w a
meta_first n rows text w p a count within none =
    let long : length (take n text ++ []) ≡ n = ap length (append-nil (take n text)) ∙ omega (arith, length-take n text) in
    record {
      events = [];
      asked = command_at n text;
      left = left_first read (meta_step (length rows) (length text)) (command_at n text) w p a;
      so_far = record { before = []; reads = decode_empty; goes_on = λ more. refl; same = refl };
      keeps =
          record {
            holds = record { rows_are = refl; text_is = command_lies n text within; rows_for = omega arith; room_for = omega (arith, long) };
            counted = none;
            place = sym long;
          };
    }

-- the next pair goes into the text area
pub meta_room : (n : ℕ) (rows : List MetaRow) (text : List ℕ) (w : Sight) (p : ℕ) (a : Areas) (rows' : List MetaRow) (count : ℕ) (text' : List ℕ) (at : ℕ) (w₀ : Sight) (a₀ : Areas)
    → MetaLeft n rows text w p a rows' count text' at w₀ a₀ → at ≤ length text'
meta_room n rows text w p a rows' count text' at w₀ a₀ so =
    let k = so.keeps in
    let s = holds_sizes so.asked rows text rows' text' k.holds in
    let r = k.holds.room_for in
    omega (arith, k.place)

abbrev Answers : ℕ → List MetaRow → List ℕ → Result ℕ RequestFault → Result (Result (Option Request) ℕ) LineFault
Answers n rows text r = heard (λ k. Some (request_at rows text (record { command = n; pairs = k }))) r

module _ (n : ℕ) (rows : List MetaRow) (text : List ℕ) (w : Sight) (p : ℕ) (a : Areas) (w' : Sight) (a' : Areas) where
  abbrev Reading : Result (Result (Option Request) ℕ) LineFault → Type 0
  Reading x = Talks (read_meta (length rows) (length text) (command_at n text)) w p a x w' a'

  -- what was read, by what was asked at last
  reads_by : (lent after rows' : List MetaRow) (count : ℕ) (text' : List ℕ) (at : ℕ) → rows ≡ lent → after ≡ rows' → (q : Request) → Keeping q rows text rows' count text' at
      → (x : Result (Result (Option Request) ℕ) LineFault) (t : Reading x) (ps : List Pkt) → (decode (bytes_given t.events)).packets ≡ ps → meta_kept (length rows) (length text) (command_at n text) ps ≡ q
      → (r : Result ℕ RequestFault) → Answers n rows' text' r ≡ x → ((k : ℕ) → r ≡ Ok k → k ≡ count) → ReadsMeta n lent text w p a r w' a' after text'
  reads_by lent after rows' count text' at re ae q k x t ps given e r is counts =
      let u : (u : Reading (Answers n rows' text' r)) × ((decode (bytes_given u.events)).packets ≡ ps) =
      subst (λ y. (u : Reading y) × ((decode (bytes_given u.events)).packets ≡ ps)) (sym is) (t, given) in
      let same : meta_kept (length rows) (length text) (command_at n text) (decode (bytes_given u.0.events)).packets ≡ q = ap (meta_kept (length rows) (length text) (command_at n text)) u.1 ∙ e in
      subst (λ l. ReadsMeta n l text w p a r w' a' after text') re
      (subst (λ l. ReadsMeta n rows text w p a r w' a' l text') (sym ae)
      (record {
        talks = u.0;
        holds = subst (λ y. Holds y rows text rows' text') (sym same) k.holds;
        counts = λ m f. counts m f ∙ k.counted ∙ ap (λ (y : Request). length y.pairs) (sym same);
      }))

module _ (n : ℕ) (rows : List MetaRow) (text : List ℕ) (w : Sight) (p : ℕ) (work status : List ℕ) (rows' : List MetaRow) (count : ℕ) (text' : List ℕ) (at : ℕ) (w₀ : Sight) (work₀ : List ℕ)
    (so : MetaLeft n rows text w p (areas work status) rows' count text' at w₀ (areas work₀ status)) (w₁ : Sight) (work₁ : List ℕ) where
  abbrev step : Request → Pkt → Turn Request (Result (Option Request) ℕ)
  step q x = meta_step (length rows) (length text) q x

  abbrev kept : Request → List Pkt → Request
  kept q ps = meta_kept (length rows) (length text) q ps

  abbrev whole : Wire → Got (Result (Option Request) ℕ)
  whole v = read_meta (length rows) (length text) (command_at n text) v

  -- where nothing more is stored of x than before it
  last_kept : (x : Pkt) (b : Result (Option Request) ℕ) → step so.asked x ≡ stops b → kept (command_at n text) (so.so_far.before ++ x ∷ []) ≡ so.asked
  last_kept x b e = so.so_far.goes_on (x ∷ []) ∙ ap (λ c. turn_kept so.asked c (λ q. kept q [])) e

  given_more : (x : Pkt) (t : Talks read w p (areas work status) (Ok x) w₁ (areas work₁ status)) → ReadsAs (bytes_given (t.events ++ so.events)) (so.so_far.before ++ x ∷ [])
  given_more x t = reads_more so.events so.so_far.before so.so_far.reads x t

  module _ (lent after : List MetaRow) (re : rows ≡ lent) where
    -- a packet that ends it
    meta_stop : (x : Pkt) (t : Talks read w p (areas work status) (Ok x) w₁ (areas work₁ status)) (b : Result (Option Request) ℕ) → step so.asked x ≡ stops b → (rows₁ : List MetaRow) (text₁ : List ℕ)
        → after ≡ rows₁ → Keeping so.asked rows text rows₁ count text₁ at → (r : Result ℕ RequestFault) → Answers n rows₁ text₁ r ≡ Ok b → ((k : ℕ) → r ≡ Ok k → k ≡ count)
        → ReadsMeta n lent text w₀ p (areas work₀ status) r w₁ (areas work₁ status) after text₁
    meta_stop x t b e rows₁ text₁ ae keeps r is counts =
        let u = left_stop read step so.asked w p (areas work status) whole w₀ (areas work₀ status) w₁ (areas work₁ status) so.left x b t e in
        reads_by n rows text w₀ p (areas work₀ status) w₁ (areas work₁ status) lent after rows₁ count text₁ at re ae so.asked keeps (Ok b) u.0 (so.so_far.before ++ x ∷ [])
        (ap (λ es. (decode (bytes_given es)).packets) u.1 ∙ ap (λ (d : Decoded). d.packets) (given_more x t)) (last_kept x b e) r is counts

    -- a refusal counts nothing
    no_count : (r : Result ℕ RequestFault) (e : RequestFault) → r ≡ Err e → (k : ℕ) → r ≡ Ok k → k ≡ count
    no_count r e is k f = let z : ◌≡◌ {A = ℕ} 0 1 = cc in absurd (omega arith)

    pub meta_fault : after ≡ rows' → (r : Result ℕ RequestFault) (e : LineFault) → Works read w p work (Err e) w₁ work₁ → r ≡ Err (Line e)
        → ReadsMeta n lent text w₀ p (areas work₀ status) r w₁ (areas work₁ status) after text'
    meta_fault ae r e s is =
        let t = s status in
        let u = left_fault read step so.asked w p (areas work status) whole w₀ (areas work₀ status) w₁ (areas work₁ status) so.left e t in
        reads_by n rows text w₀ p (areas work₀ status) w₁ (areas work₁ status) lent after rows' count text' at re ae so.asked so.keeps (Err e) u.0 so.so_far.before
        (ap (λ es. (decode (bytes_given es)).packets) u.1 ∙ reads_none so.events so.so_far.before so.so_far.reads e t)
        (ap (kept (command_at n text)) (sym (append-nil so.so_far.before)) ∙ so.so_far.goes_on []) r (ap (Answers n rows' text') is) (no_count r (Line e) is)

    module _ (k : Packet ℕ) (s : Works read w p work (shown work₁ (Ok k)) w₁ work₁) where
      at_packet : (x : Packet ℕ) → k ≡ x → Talks read w p (areas work status) (shown work₁ (Ok x)) w₁ (areas work₁ status)
      at_packet x e = talk_is (ap (λ y. shown work₁ (Ok y)) (sym e)) (s status)

      pub meta_end : n ≤ length text → after ≡ rows' → k ≡ Flush → (m : ℕ) → m ≡ count → ReadsMeta n lent text w₀ p (areas work₀ status) (Ok m) w₁ (areas work₁ status) after text'
      meta_end within ae e m me =
          let q = so.asked in
          let long : n ≡ length q.command = sym (ap length so.so_far.same ∙ omega (arith, length-take n text)) in
          let many : m ≡ length q.pairs = me ∙ so.keeps.counted in
          let shown_is : request_at rows' text' (record { command = n; pairs = m }) ≡ q =
          ap (λ (i : ℕ). request_at rows' text' (record { command = i; pairs = m })) long
          ∙ ap (λ (i : ℕ). request_at rows' text' (record { command = length q.command; pairs = i })) many
          ∙ holds_shows q rows text rows' text' so.keeps.holds in
          meta_stop flush (at_packet Flush e) (Ok (Some q)) refl rows' text' ae so.keeps (Ok m) (ap (λ y. Ok (Ok (Some y))) shown_is) (λ i f. let same : m ≡ i = cc in sym same ∙ me)

      pub meta_marker : after ≡ rows' → (k ≡ Flush → ⊥) → ((m : ℕ) → k ≡ Data m → ⊥) → ReadsMeta n lent text w₀ p (areas work₀ status) (Err Metadata) w₁ (areas work₁ status) after text'
      meta_marker ae not-flush not-data = marker k refl
        where
          ends : (x : Pkt) → step so.asked x ≡ stops (Err 40) → Talks read w p (areas work status) (Ok x) w₁ (areas work₁ status)
              → ReadsMeta n lent text w₀ p (areas work₀ status) (Err Metadata) w₁ (areas work₁ status) after text'
          ends x e t = meta_stop x t (Err 40) e rows' text' ae so.keeps (Err Metadata) refl (no_count (Err Metadata) Metadata refl)

          marker : (x : Packet ℕ) → k ≡ x → ReadsMeta n lent text w₀ p (areas work₀ status) (Err Metadata) w₁ (areas work₁ status) after text'
          marker Flush e = absurd (not-flush e)
          marker Delimiter e = ends delimiter refl (at_packet Delimiter e)
          marker ResponseEnd e = ends response_end refl (at_packet ResponseEnd e)
          marker (Data m) e = absurd (not-data m e)

      module _ (m : ℕ) (e : k ≡ Data m) (part : List ℕ) (front : part ≡ take m work₁) (rows₁ : List MetaRow) (count₁ : ℕ) (text₁ : List ℕ) where
        at_line : Talks read w p (areas work status) (Ok (line part)) w₁ (areas work₁ status)
        at_line = talk_is (ap (λ l. Ok (line l)) front) (at_packet (Data m) e)

        line_kept : (v : Result ℕ RequestFault) → StoresLine at rows' count text' part v rows₁ count₁ text₁ → LineKept so.asked rows text part at v rows₁ count₁ text₁
        line_kept v h = h so.asked rows text so.keeps

        pub meta_refused : after ≡ rows₁ → (v : Result ℕ RequestFault) → StoresLine at rows' count text' part v rows₁ count₁ text₁ → (f : RequestFault) → v ≡ Err f
            → (r : Result ℕ RequestFault) → r ≡ Err f → ReadsMeta n lent text w₀ p (areas work₀ status) r w₁ (areas work₁ status) after text₁
        meta_refused ae v h f was r is =
            let h' : LineKept so.asked rows text part at (Err f) rows₁ count₁ text₁ = subst (λ y. LineKept so.asked rows text part at y rows₁ count₁ text₁) was (line_kept v h) in
            let same : count₁ ≡ count = h'.3.counted ∙ sym so.keeps.counted in
            meta_stop (line part) at_line (Err h'.0) h'.1 rows₁ text₁ ae (subst (λ i. Keeping so.asked rows text rows₁ i text₁ at) same h'.3) r (ap (Answers n rows₁ text₁) is ∙ h'.2) (no_count r f is)

        pub meta_more : (behind : ℕ) → StoresLine at rows' count text' part (Ok behind) rows₁ count₁ text₁
            → MetaLeft n rows text w₁ p (areas work₁ status) rows₁ count₁ text₁ behind w₀ (areas work₀ status)
        meta_more behind h =
            let h' : LineKept so.asked rows text part at (Ok behind) rows₁ count₁ text₁ = line_kept (Ok behind) h in
            let q : Request = and_pair so.asked h'.0 in
            let t = at_line in
            record {
              events = t.events ++ so.events;
              asked = q;
              left = left_more read step so.asked w p (areas work status) whole w₀ (areas work₀ status) w₁ (areas work₁ status) so.left (line part) q [] (areas work₁ status) t h'.1 refl refl (read_falls t);
              so_far =
                  record {
                    before = so.so_far.before ++ line part ∷ [];
                    reads = given_more (line part) t;
                    goes_on = λ more.
                        ap (kept (command_at n text)) (append_assoc so.so_far.before (line part ∷ []) more)
                        ∙ so.so_far.goes_on (line part ∷ more)
                        ∙ ap (λ c. turn_kept so.asked c (λ y. kept y more)) h'.1;
                    same = so.so_far.same;
                  };
              keeps = h'.2;
            }
