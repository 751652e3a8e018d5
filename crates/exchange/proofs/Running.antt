-- Calls are worked off one behind the other.
use Rattle.std.proofs.Common.{◌≡◌, ℕ, ◌+◌, ◌<◌, ◌≤◌, Bool, ◌&&◌, List, [], ◌∷◌, ◌++◌, map, length, take, replicate, Some, None, refl, sym, ap, ◌∙◌, subst, arith}
use Rattle.std.specs.Prelude.{slice_index_or, slice_set, nat_le}
use Rattle.std.proofs.lemmas.List.{take_all, take_more, take_more_set, map_push, map-set, get_or-map, set-get_or, length-map, length-take}
use Rattle.host.specs.Talk.{Areas, Sight, bytes_given}
use Rattle.process.specs.Given.{have_room}
use Rattle.client.specs.declared.paths.PathRow.{PathRow}
use Rattle.client.specs.Listings.{named_in}
use Rattle.records.specs.declared.key.Key.{Key}
use Rattle.records.specs.Places.{Place}
use Rattle.rules.specs.Answers.{Answer, payload}
use Rattle.rules.specs.Calls.{Call, list, Turn}
use Rattle.rules.specs.Lives.{Life, turn, run, first_life}
use Rattle.rules.specs.Promises.{passes, IsStep, IsLife}
use Rattle.rules.specs.Steps.{state, step}
use Rattle.rules.proofs.Living.{life_start, life_more}
use Rattle.driver.specs.Storing.{ListsStep}
use Rattle.exchange.specs.declared.call.Call.{Call as InCode}
use Rattle.exchange.specs.declared.call.Entry.{Entry}
use Rattle.exchange.specs.declared.answer.Answer.{Answer as Told}
use Rattle.exchange.specs.Runs.{Space, space, space_after, space_of, named_by, IsMade, IsRun}
use Rattle.exchange.specs.Values.{call_of, answer_of, answered, blanked, zeros}

-- a payload that lies whole in an area
pub lies_whole : (n : ℕ) (area : List ℕ) → n ≤ length area → blanked (payload (take n area)) ≡ payload (zeros n)
lies_whole n area h = (let z : length (take n area) ≡ n = length-take n area ∙ omega arith in ap (λ m. payload (zeros m)) z)

-- areas of the same lengths have room or have not
pub rooms_kept : (work status work' status' : List ℕ) → length work' ≡ length work → length status' ≡ length status → have_room work' status' ≡ have_room work status
rooms_kept work status work' status' e f = λ j. nat_le 65520 (e j) && nat_le 128 (f j)

-- What a call makes

module _ {capacity : ℕ} {c : Call} {has : Bool} {table : List Place} {w : Sight} {a : Areas} {r : Answer} {table' : List Place} {w' : Sight} {a' : Areas} (r' : Answer) where
  -- a call that is no listing
  pub made : ((named : List (List ℕ)) (s : Space) → space_after c named s ≡ s) → IsStep capacity c has table w a r table' w' a' → r' ≡ r → (s : Space) → IsMade capacity c has table w a s r' table' w' a' s
  made stays g e s = subst (λ x. IsMade capacity c has table w a s x table' w' a' s) (sym e) (record { goes = g; lent = sym (stays (named_in (bytes_given (passes (step capacity g.turn (state table w.world)).deeds))) s) })

module _ {capacity : ℕ} {k : Key} {has : Bool} {table : List Place} {w : Sight} {a : Areas} {rows : List PathRow} {text : List ℕ} {r : Answer} {table' : List Place} {w' : Sight} {a' : Areas} {rows' : List PathRow} {text' : List ℕ} (r' : Answer) where
  pub listing_made : ListsStep capacity (list k (length rows) (length text)) has table w a rows text r table' w' a' rows' text' → r' ≡ r
      → IsMade capacity (list k (length rows) (length text)) has table w a (space rows text) r' table' w' a' (space rows' text')
  listing_made l e =
      subst (λ x. IsMade capacity (list k (length rows) (length text)) has table w a (space rows text) x table' w' a' (space rows' text')) (sym e)
      (record { goes = l.goes; lent = λ j. record { rows = l.stores.rows_are j; text = l.stores.text_is j } })

-- One behind the other

space_push : (capacity : ℕ) (ts : List Turn) (t : Turn) (l : Life) (s : Space) → space_of capacity (ts ++ t ∷ []) l s ≡ space_after t.call (named_by capacity t (run capacity ts l)) (space_of capacity ts l s)
space_push capacity [] t l s = refl
space_push capacity (u ∷ ts) t l s = space_push capacity ts t (turn capacity u l) (space_after u.call (named_by capacity u l) s)

-- the first i entries are worked off
pub record Worked (capacity : ℕ) (has : Bool) (i : ℕ) (old new : List Entry) (w : Sight) (a : Areas) (s : Space) (table : List Place) (w' : Sight) (a' : Areas) (s' : Space) : Type 0 where
  pub answers : List Answer
  pub life : IsLife capacity (map (λ e. call_of (length s.rows) (length s.text) e.call) (take i old)) has w a answers table w' a'
  pub lent : s' ≡ space_of capacity life.turns (first_life w.world) s
  pub told : map answered (take i new) ≡ map (λ r. Some (blanked r)) answers
  pub same_calls : map (λ e. e.call) new ≡ map (λ e. e.call) old

pub worked_none : (capacity : ℕ) (has : Bool) (es : List Entry) (w : Sight) (a : Areas) (s : Space) (table : List Place) → table ≡ replicate 8 None → Worked capacity has 0 es es w a s table w a s
worked_none capacity has es w a s table e =
    subst (λ t. Worked capacity has 0 es es w a s t w a s) (sym e)
    (record { answers = []; life = life_start capacity has w a; lent = refl; told = refl; same_calls = refl })

module _ {capacity : ℕ} {has : Bool} {i : ℕ} {old new : List Entry} {w : Sight} {a : Areas} {s : Space} {table₁ : List Place} {w₁ : Sight} {a₁ : Areas} {s₁ : Space} (was : Worked capacity has i old new w a s table₁ w₁ a₁ s₁)
    (inside : i < length new) (d : Entry) where
  same_length : length old ≡ length new
  same_length = sym (length-map old (λ (e : Entry). e.call)) ∙ ap length (sym was.same_calls) ∙ length-map new (λ (e : Entry). e.call)

  its_call : (slice_index_or old i d).call ≡ (slice_index_or new i d).call
  its_call =
      let z = same_length in
      sym (get_or-map (λ (e : Entry). e.call) old i d d.call (omega arith)) ∙ ap (λ cs. slice_index_or cs i d.call) (sym was.same_calls) ∙ get_or-map (λ (e : Entry). e.call) new i d d.call inside

  abbrev in_rules : Entry → Call
  in_rules e = call_of (length s.rows) (length s.text) e.call

  calls_more : map (λ e. call_of (length s.rows) (length s.text) e.call) (take i old) ++ call_of (length s.rows) (length s.text) (slice_index_or new i d).call ∷ []
      ≡ map (λ e. call_of (length s.rows) (length s.text) e.call) (take (i + 1) old)
  calls_more =
      let z = same_length in
      sym (ap (map (λ (x : Entry). call_of (length s.rows) (length s.text) x.call)) (take_more old i d (omega arith)) ∙ map_push (λ (x : Entry). call_of (length s.rows) (length s.text) x.call) (take i old) (slice_index_or old i d)
      ∙ ap (λ c. map (λ (x : Entry). call_of (length s.rows) (length s.text) x.call) (take i old) ++ call_of (length s.rows) (length s.text) c ∷ []) its_call)

  module _ {ra : Answer} {table₂ : List Place} {w₂ : Sight} {a₂ : Areas} {s₂ : Space} (m : IsMade capacity (call_of (length s.rows) (length s.text) (slice_index_or new i d).call) has table₁ w₁ a₁ s₁ ra table₂ w₂ a₂ s₂)
      (ans : Told) (e : blanked ra ≡ answer_of ans) where
    life_then : (l : IsLife capacity (map (λ x. call_of (length s.rows) (length s.text) x.call) (take (i + 1) old)) has w a (was.answers ++ ra ∷ []) table₂ w₂ a₂) × (l.turns ≡ was.life.turns ++ m.goes.turn ∷ [])
    life_then =
        subst (λ cs. (l : IsLife capacity cs has w a (was.answers ++ ra ∷ []) table₂ w₂ a₂) × (l.turns ≡ was.life.turns ++ m.goes.turn ∷ [])) calls_more (life_more was.life m.goes, refl)

    abbrev Named : List (List ℕ)
    Named = named_in (bytes_given (passes (step capacity m.goes.turn (state table₁ w₁.world)).deeds))

    lent_then : s₂ ≡ space_of capacity life_then.0.turns (first_life w.world) s
    lent_then =
        m.lent
        ∙ ap (λ c. space_after c (named_in (bytes_given (passes (step capacity m.goes.turn (state table₁ w₁.world)).deeds))) s₁) (sym m.goes.is_of)
        ∙ ap (λ z. space_after m.goes.turn.call (named_in (bytes_given (passes (step capacity m.goes.turn (state table₁ w₁.world)).deeds))) z) was.lent
        ∙ ap (λ st. space_after m.goes.turn.call (named_in (bytes_given (passes (step capacity m.goes.turn st).deeds))) (space_of capacity was.life.turns (first_life w.world) s)) (sym was.life.reaches)
        ∙ sym (space_push capacity was.life.turns m.goes.turn (first_life w.world) s)
        ∙ ap (λ ts. space_of capacity ts (first_life w.world) s) (sym life_then.1)

    pub worked_more : Worked capacity has (i + 1) old (slice_set new i (record { call = (slice_index_or new i d).call; answer = Some ans })) w a s table₂ w₂ a₂ s₂
    worked_more = record {
      answers = was.answers ++ ra ∷ [];
      life = life_then.0;
      lent = lent_then;
      told = ap (map answered) (take_more_set new i (record { call = (slice_index_or new i d).call; answer = Some ans }) inside) ∙ map_push answered (take i new) (record { call = (slice_index_or new i d).call; answer = Some ans })
          ∙ ap (λ rs. rs ++ Some (answer_of ans) ∷ []) was.told ∙ ap (λ x. map (λ r. Some (blanked r)) was.answers ++ Some x ∷ []) (sym e) ∙ sym (map_push (λ r. Some (blanked r)) was.answers ra);
      same_calls = map-set (λ (x : Entry). x.call) new i (record { call = (slice_index_or new i d).call; answer = Some ans }) ∙ ap (λ c. slice_set (map (λ (x : Entry). x.call) new) i c) (sym (get_or-map (λ (x : Entry). x.call) new i d d.call inside))
          ∙ set-get_or (map (λ (x : Entry). x.call) new) i d.call ∙ was.same_calls;
    }

-- all of them
pub worked_all : {capacity : ℕ} {has : Bool} {i : ℕ} {old new : List Entry} {w : Sight} {a : Areas} {s : Space} {table' : List Place} {w' : Sight} {a' : Areas} {s' : Space}
    → Worked capacity has i old new w a s table' w' a' s' → length old ≤ i → length new ≤ i → IsRun capacity has old w a s new table' w' a' s'
worked_all {capacity} {has} {i} {old} {new} {w} {a} {s} {table'} {w'} {a'} {s'} was ho hn =
    let l : (l : IsLife capacity (map (λ e. call_of (length s.rows) (length s.text) e.call) old) has w a was.answers table' w' a') × (l.turns ≡ was.life.turns) =
    subst (λ es. (l : IsLife capacity (map (λ e. call_of (length s.rows) (length s.text) e.call) es) has w a was.answers table' w' a') × (l.turns ≡ was.life.turns)) (take_all i old ho) (was.life, refl) in
    record {
      answers = was.answers;
      life = l.0;
      lent = was.lent ∙ ap (λ ts. space_of capacity ts (first_life w.world) s) (sym l.1);
      told = ap (map answered) (sym (take_all i new hn)) ∙ was.told;
      same_calls = was.same_calls;
    }

-- what is lent has the lengths that it had
pub lent_so : {capacity rows room rows' room' : ℕ} (c : InCode) {has has' : Bool} {table : List Place} {w : Sight} {a : Areas} {s : Space} {r : Answer} {table' : List Place} {w' : Sight} {a' : Areas} {s' : Space} → rows' ≡ rows → room' ≡ room → has' ≡ has
    → IsMade capacity (call_of rows' room' c) has' table w a s r table' w' a' s' → IsMade capacity (call_of rows room c) has table w a s r table' w' a' s'
lent_so {capacity} {rows} {room} {rows'} {room'} c {has} {has'} {table} {w} {a} {s} {r} {table'} {w'} {a'} {s'} e f h m =
    subst (λ n. IsMade capacity (call_of n room c) has table w a s r table' w' a' s') e
    (subst (λ n. IsMade capacity (call_of rows' n c) has table w a s r table' w' a' s') f (subst (λ b. IsMade capacity (call_of rows' room' c) b table w a s r table' w' a' s') h m))
