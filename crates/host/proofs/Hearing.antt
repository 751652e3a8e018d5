-- A packet is read: its header, and then what that announces.
use Rattle.std.proofs.Common.{◌≡◌, ℕ, ◌+◌, ◌-◌, ◌<◌, ◌≤◌, Bool, true, false, cond, List, [], ◌∷◌, ◌++◌, length, take, drop, Ok, Err, Result, sym, refl, ap, ◌∙◌, arith, take-add}
use borrow.Rule.Slice.PartMut.{post_of}
use Rattle.std.proofs.lemmas.List.{append_assoc, append-nil, length-take, length-drop, length-take-le, take-append-drop, drop-append-le, drop-take, take_at, take_all, drop_all}
use Rattle.std.proofs.lemmas.Bool.{leb-true, leb-false}
use Rattle.packetline.specs.declared.packet.Packet.{Packet}
use Rattle.packetline.specs.declared.packet.Packet.TheVariants.{Flush, Delimiter, ResponseEnd, Data}
use Rattle.packetline.specs.declared.decode.Error.{Error}
use Rattle.packetline.specs.declared.decode.Error.TheVariants.{BadHeader}
use Rattle.packetline.specs.Packets.{header, Pkt, line, payload_length, with_payload, Front, whole, bad, short, front, over}
use Rattle.packetline.proofs.Fronts.{front_none, front_bad, front_cut, front_whole}
use Rattle.host.specs.declared.fault.Fault.{Fault}
use Rattle.host.specs.declared.fault.LineFault.{LineFault}
use Rattle.host.specs.declared.fault.LineFault.TheVariants.{Host, Packet as of_packet}
use Rattle.host.specs.Worlds.{World, process, with_process, waiting_now, waits, less, taken, stop}
use Rattle.host.specs.Acts.{Log}
use Rattle.host.specs.Fills.{Filled, Brought}
use Rattle.host.specs.Talk.{Event, gave, areas, Later, Wire, wire, ends, hear, read, sight, Works, shown}
use Rattle.host.proofs.Logging.{brought_is, brought_then}
use Rattle.host.proofs.Takes.{process_taken, taken_taken, waits_taken, stop_taken}

-- the first n bytes that wait were taken, and what is behind their header lies over the front of the area
module _ (w : World) (p : ℕ) (area : List ℕ) (w' : World) (area' : List ℕ) (g g' : Log) (n : ℕ) (after : w' ≡ taken w p n) (logs : Brought p g (take n (waits w p)) g')
    (laid : area' ≡ over (drop 4 (take n (waits w p))) area) where
  abbrev ws : List ℕ
  ws = waits w p

  abbrev past_read : Later → List Event → Wire
  past_read later past = wire (less n (process w p)) later (gave (take n ws) ∷ past)

  heard_works : (r : Result Pkt LineFault) (f : Front) → front ws ≡ f
      → ((later : Later) (past : List Event) → hear f (wire (process w p) later past) ≡ ends r (past_read later past)) → Works read (sight g w) p area r (sight g' w') area'
  heard_works r f is hears status =
      let at : process w' p ≡ less n (process w p) = ap (λ v. process v p) after ∙ process_taken w p n in
      record {
        events = gave (take n ws) ∷ [];
        goes = λ rest. (
          rest,
          λ past. ap (λ x. hear x (wire (process w p) rest past)) is ∙ hears rest past ∙ ap (λ q. ends r (wire q rest (gave (take n ws) ∷ past))) (sym at),
        );
        others = after ∙ ap (with_process w p) (sym at);
        laid = ap (λ l. areas l status) laid;
        acts = logs.acts;
        acted = (logs.acts, ([], sym (append-nil logs.acts), logs.joined, refl));
        grows = logs.grows;
      }

  -- input that runs out before a packet's end
  pub short_works : (f : Fault) (r : Result Pkt LineFault) → front ws ≡ short → length ws ≤ n → f ≡ stop w p → r ≡ Err (Host f) → Works read (sight g w) p area r (sight g' w') area'
  short_works f r is few e k =
      heard_works r short is
      (λ later past.
      let gone : drop n ws ≡ [] = drop_all n ws few in
      let all : take n ws ≡ ws = take_all n ws few in
      ap (λ xs. ends (Err (Host (stop w p))) (wire (waiting_now xs (process w p)) later (gave ws ∷ past))) (sym gone)
      ∙ ap (λ xs. ends (Err (Host (stop w p))) (wire (less n (process w p)) later (gave xs ∷ past))) (sym all)
      ∙ ap (λ x. ends x (past_read later past)) (ap (λ x. Err (Host x)) (sym e) ∙ sym k))

abbrev zeros : List ℕ
zeros = 0 ∷ 0 ∷ 0 ∷ 0 ∷ []

-- what the answer of a fill tells
fill_ok : (b : Bool) (u : Unit {0}) (s : Fault) → ◌≡◌ {A = Result (Unit {0}) Fault} (Ok u) (cond b (Ok tt) (Err s)) → b ≡ true
fill_ok true u s e = refl
fill_ok false u s e = let z : ◌≡◌ {A = ℕ} 0 1 = cc in absurd (omega arith)

fill_err : (b : Bool) (f s : Fault) → ◌≡◌ {A = Result (Unit {0}) Fault} (Err f) (cond b (Ok tt) (Err s)) → (b ≡ false) × (f ≡ s)
fill_err true f s e = let z : ◌≡◌ {A = ℕ} 0 1 = cc in absurd (omega arith)
fill_err false f s e = (refl, cc)

header_taken : (bytes : List ℕ) → 4 ≤ length bytes → header (take 4 bytes) ≡ header bytes
header_taken [] h = absurd (omega arith)
header_taken (a ∷ []) h = absurd (omega arith)
header_taken (a ∷ b ∷ []) h = absurd (omega arith)
header_taken (a ∷ b ∷ c ∷ []) h = absurd (omega arith)
header_taken (a ∷ b ∷ c ∷ d ∷ bytes) h = refl

-- a packet that is no data packet has no payload
plain : (k : Packet ℕ) → ((n : ℕ) → k ≡ Data n → ⊥) → payload_length k ≡ 0
plain Flush h = refl
plain Delimiter h = refl
plain ResponseEnd h = refl
plain (Data n) h = absurd (h n refl)

-- a payload laid over the front of an area is the one that was given
payload_laid : (k : Packet ℕ) (bytes area : List ℕ) → payload_length k ≤ length bytes → with_payload k (over (take (payload_length k) bytes) area) ≡ with_payload k bytes
payload_laid Flush bytes area h = refl
payload_laid Delimiter bytes area h = refl
payload_laid ResponseEnd bytes area h = refl
payload_laid (Data n) bytes area h = ap line (take_at (take n bytes) (drop (length (take n bytes)) area) n (length-take-le n bytes h))

-- a part of an area over whose front xs were laid
over_part : (xs area : List ℕ) (n : ℕ) → length xs ≤ n → n ≤ length area → over xs (take n area) ++ drop n area ≡ over xs area
over_part xs area n h k =
    let fits : length xs ≤ length (take n area) = simp length-take (omega arith) in
    append_assoc xs (drop (length xs) (take n area)) (drop n area)
    ∙ ap (λ l. xs ++ l) (sym (drop-append-le (length xs) (take n area) (drop n area) fits) ∙ ap (drop (length xs)) (take-append-drop n area))

module _ (w : World) (p : ℕ) (area : List ℕ) (w₁ : World) (head : List ℕ) (g g₁ : Log) (logs : Brought p g (take 4 (waits w p)) g₁) where
  -- four bytes lay nothing over the area
  no_payload : area ≡ over (drop 4 (take 4 (waits w p))) area
  no_payload = ap (λ xs. over xs area) (sym (drop_all 4 (take 4 (waits w p)) (simp length-take (omega arith))))

  pub read_none : (f : Fault) (r : Result (Packet ℕ) LineFault) → Filled w p zeros (Err f) w₁ head → r ≡ Err (Host f) → Works read (sight g w) p area (shown area r) (sight g₁ w₁) area
  read_none f r h e =
      let t = fill_err _ _ _ h.answer in
      let few : length (waits w p) < 4 = leb-false 4 (length (waits w p)) t.0 in
      short_works w p area w₁ area g g₁ 4 h.after logs no_payload f (shown area r) (front_none (waits w p) few) (omega arith) t.1 (ap (shown area) e)

  module _ (u : Unit {0}) (h : Filled w p zeros (Ok u) w₁ head) where
    enough : 4 ≤ length (waits w p)
    enough = leb-true 4 (length (waits w p)) (fill_ok _ _ _ h.answer)

    header_is : header head ≡ header (waits w p)
    header_is =
        ap header (h.laid ∙ ap (λ n. take 4 (waits w p) ++ drop n zeros) (length-take-le 4 (waits w p) enough) ∙ append-nil (take 4 (waits w p))) ∙ header_taken (waits w p) enough

    pub read_bad : (e : Error) (n : ℕ) (r : Result (Packet ℕ) LineFault) → Err n ≡ header head → r ≡ Err (of_packet e) → Works read (sight g w) p area (shown area r) (sight g₁ w₁) area
    read_bad BadHeader n r k is =
        heard_works w p area w₁ area g g₁ 4 h.after logs no_payload (shown area r) (bad (take 4 (waits w p)) (drop 4 (waits w p))) (front_bad (waits w p) n enough (sym (k ∙ header_is)))
        (λ later past. ap (λ x. ends x (wire (less 4 (process w p)) later (gave (take 4 (waits w p)) ∷ past))) (sym (ap (shown area) is)))

    module _ (k : Packet ℕ) (is : Ok k ≡ header head) where
      -- a packet that is whole
      whole_works : (w₂ : World) (area₂ : List ℕ) (g₂ : Log) → 4 + payload_length k ≤ length (waits w p) → w₂ ≡ taken w p (4 + payload_length k) → Brought p g (take (4 + payload_length k) (waits w p)) g₂
          → area₂ ≡ over (take (payload_length k) (drop 4 (waits w p))) area → Works read (sight g w) p area (shown area₂ (Ok k)) (sight g₂ w₂) area₂
      whole_works w₂ area₂ g₂ all after brought laid =
          let n = 4 + payload_length k in
          let ws = waits w p in
          let room : payload_length k ≤ length (drop 4 ws) = simp length-drop (omega arith) in
          let same : with_payload k area₂ ≡ with_payload k (drop 4 ws) = ap (with_payload k) laid ∙ payload_laid k (drop 4 ws) area room in
          heard_works w p area w₂ area₂ g g₂ n after brought (laid ∙ ap (λ xs. over xs area) (sym (drop-take 4 (payload_length k) ws))) (Ok (with_payload k area₂))
          (whole (with_payload k (drop 4 ws)) (take n ws) (drop n ws)) (front_whole ws k (sym (is ∙ header_is)) all)
          (λ later past. ap (λ x. ends (Ok x) (wire (less n (process w p)) later (gave (take n ws) ∷ past))) (sym same))

      pub read_plain : ((n : ℕ) → k ≡ Data n → ⊥) → Works read (sight g w) p area (shown area (Ok k)) (sight g₁ w₁) area
      read_plain not-data =
          let z = plain k not-data in
          let four : 4 ≡ 4 + payload_length k = omega (arith, z) in
          whole_works w₁ area g₁ (omega (arith, enough, z)) (h.after ∙ ap (taken w p) four) (brought_is p (ap (λ n. take n (waits w p)) four) logs)
          (ap (λ n. over (take n (drop 4 (waits w p))) area) (sym z))

    module _ (n : ℕ) (is : Ok (Data n) ≡ header head) (fits : n ≤ length area) (w₂ : World) (part : List ℕ) (g₂ : Log) (more : Brought p g₁ (take (length (take (n - 0) area)) (waits w₁ p)) g₂) where
      waits_now : waits w₁ p ≡ drop 4 (waits w p)
      waits_now = ap (λ v. waits v p) h.after ∙ waits_taken w p 4

      length_waits : length (waits w₁ p) ≡ length (waits w p) - 4
      length_waits = ap length waits_now ∙ length-drop 4 (waits w p)

      part_length : length (take (n - 0) area) ≡ n
      part_length = simp length-take (omega arith)

      brought_all : Brought p g (take (4 + n) (waits w p)) g₂
      brought_all =
          brought_is p (sym (take-add 4 (n) (waits w p)))
          (brought_then p logs (brought_is p (ap (λ m. take m (waits w₁ p)) part_length ∙ ap (take (n)) waits_now) more))

      data_after : {r₂ : Result (Unit {0}) Fault} → Filled w₁ p (take (n - 0) area) r₂ w₂ part → w₂ ≡ taken w p (4 + n)
      data_after f = f.after ∙ ap (taken w₁ p) part_length ∙ ap (λ v. taken v p (n)) h.after ∙ taken_taken w p 4 (n)

      data_laid : {r₂ : Result (Unit {0}) Fault} → Filled w₁ p (take (n - 0) area) r₂ w₂ part → part ++ post_of 0 (n - 0) area ≡ over (take n (drop 4 (waits w p))) area
      data_laid f =
          let xs = take (n) (drop 4 (waits w p)) in
          let z : n - 0 ≡ n = omega arith in
          let lies : part ≡ over xs (take n area) =
          f.laid ∙ ap (λ m. over (take m (waits w₁ p)) (take (n - 0) area)) part_length ∙ ap (λ l. over (take n l) (take (n - 0) area)) waits_now
          ∙ ap (λ m. over xs (take m area)) z in
          ap (λ l. l ++ drop (n - 0) area) lies ∙ ap (λ m. over xs (take n area) ++ drop m area) z
          ∙ over_part xs area (n) (simp length-take (omega arith)) (omega arith)

      pub read_data : (v : Unit {0}) → Filled w₁ p (take (n - 0) area) (Ok v) w₂ part
          → Works read (sight g w) p area (shown (part ++ post_of 0 (n - 0) area) (Ok (Data n))) (sight g₂ w₂) (part ++ post_of 0 (n - 0) area)
      read_data v f =
          let all : length (take (n - 0) area) ≤ length (waits w₁ p) = leb-true _ _ (fill_ok _ _ _ f.answer) in
          whole_works (Data n) is w₂ _ g₂ (omega (arith, all, part_length, length_waits, enough)) (data_after f) brought_all (data_laid f)

      pub read_cut : (e : Fault) (r : Result (Packet ℕ) LineFault) → Filled w₁ p (take (n - 0) area) (Err e) w₂ part → r ≡ Err (Host e)
          → Works read (sight g w) p area (shown (part ++ post_of 0 (n - 0) area) r) (sight g₂ w₂) (part ++ post_of 0 (n - 0) area)
      read_cut e r f told =
          let t = fill_err _ _ _ f.answer in
          let few : length (waits w₁ p) < length (take (n - 0) area) = leb-false _ _ t.0 in
          let less_than : length (waits w p) < 4 + n = omega (arith, few, part_length, length_waits, enough) in
          short_works w p area w₂ _ g g₂ (4 + n) (data_after f) brought_all (data_laid f ∙ ap (λ xs. over xs area) (sym (drop-take 4 (n) (waits w p)))) e (shown _ r)
          (front_cut (waits w p) (Data n) enough (sym (is ∙ header_is)) less_than) (omega arith) (t.1 ∙ ap (λ v. stop v p) h.after ∙ stop_taken w p 4) (ap (shown _) told)
