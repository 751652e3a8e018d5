-- Calls that are steps, one behind the other, are a life.
use Rattle.std.proofs.Common.{◌≡◌, ℕ, Bool, List, [], ◌∷◌, ◌++◌, map, replicate, Some, None, sym, refl, ap, ◌∙◌, subst}
use Rattle.std.proofs.lemmas.List.{append_assoc, append-nil, map_push}
use Rattle.host.specs.Acts.{Act}
use Rattle.host.specs.Talk.{Areas, lay, Sight}
use Rattle.host.proofs.Talking.{lay_append}
use Rattle.host.proofs.Logging.{grows_none, grows_then}
use Rattle.records.specs.Places.{Place}
use Rattle.rules.specs.Calls.{Call, Turn}
use Rattle.rules.specs.Answers.{Answer}
use Rattle.rules.specs.Steps.{State, state, Deed, starts, talks, ends, Outcome, step}
use Rattle.rules.specs.Lives.{Life, turn, run, deeds_of, first_life}
use Rattle.rules.specs.Promises.{Done, passes, IsStep, IsLife}
use Rattle.rules.proofs.Onward.{run_push, answers_push, stands}

pub done_append : (ds es : List Deed) (m n : List Act) → Done ds m → Done es n → Done (ds ++ es) (m ++ n)
done_append [] es m n h k = subst (Done es) (ap (λ l. l ++ n) (sym h)) k
done_append (starts command (Some p) ∷ ds) es m n h k = (h.0 ++ n, ap (λ l. l ++ n) h.1, done_append ds es h.0 n h.2 k)
done_append (starts command None ∷ ds) es m n h k = (h.0, (h.1.0 ++ n, ap (λ l. l ++ n) h.1.1, done_append ds es h.1.0 n h.1.2 k))
done_append (talks p xs bytes ∷ ds) es m n h k =
    (h.0, (h.1.0 ++ n, ap (λ l. l ++ n) h.1.1 ∙ append_assoc h.0 h.1.0 n, h.1.2, done_append ds es h.1.0 n h.1.3 k))
done_append (ends p how ∷ ds) es m n h k = (h.0 ++ n, ap (λ l. l ++ n) h.1, done_append ds es h.0 n h.2 k)

pub deeds_push : (capacity : ℕ) (ts : List Turn) (t : Turn) (l : Life) → deeds_of capacity (ts ++ t ∷ []) l ≡ (step capacity t (run capacity ts l).now).deeds ++ deeds_of capacity ts l
deeds_push capacity [] t l = sym (append-nil (step capacity t l.now).deeds)
deeds_push capacity (u ∷ ts) t l =
    ap (λ ds. ds ++ (step capacity u l.now).deeds) (deeds_push capacity ts t (turn capacity u l))
    ∙ append_assoc (step capacity t (run capacity ts (turn capacity u l)).now).deeds (deeds_of capacity ts (turn capacity u l)) (step capacity u l.now).deeds

pub passes_append : (ds es : List Deed) → passes (ds ++ es) ≡ passes ds ++ passes es
passes_append [] es = refl
passes_append (starts command p ∷ ds) es = passes_append ds es
passes_append (talks p xs bytes ∷ ds) es = ap (λ l. xs ++ l) (passes_append ds es) ∙ sym (append_assoc xs (passes ds) (passes es))
passes_append (ends p how ∷ ds) es = passes_append ds es

abbrev pub life_start : (capacity : ℕ) (room : Bool) (w : Sight) (a : Areas) → IsLife capacity [] room w a [] (replicate 8 None) w a
life_start capacity room w a = record {
  turns = [];
  are = refl;
  rooms_are = refl;
  answers = refl;
  reaches = refl;
  laid = refl;
  acts = [];
  done = refl;
  grows = grows_none w.log;
  stands = λ none. stands capacity (first_life w.world) (record { empty = refl; none_open = none; unwritten = λ p. refl; none_came = λ p. refl }) [];
}

abbrev pub life_more : {capacity : ℕ} {calls : List Call} {room : Bool} {w : Sight} {a : Areas} {rs : List Answer} {table₁ : List Place} {w₁ : Sight} {a₁ : Areas} {c : Call} {r : Answer} {table₂ : List Place} {w₂ : Sight} {a₂ : Areas}
    → IsLife capacity calls room w a rs table₁ w₁ a₁ → IsStep capacity c room table₁ w₁ a₁ r table₂ w₂ a₂ → IsLife capacity (calls ++ c ∷ []) room w a (rs ++ r ∷ []) table₂ w₂ a₂
life_more {capacity} {calls} {room} {w} {a} {rs} {table₁} {w₁} {a₁} {c} {r} {table₂} {w₂} {a₂} l s =
    let o : (λ (x : State). step capacity s.turn x) (run capacity l.turns (first_life w.world)).now ≡ step capacity s.turn (state table₁ w₁.world) = ap (step capacity s.turn) l.reaches in
    let d : deeds_of capacity (l.turns ++ s.turn ∷ []) (first_life w.world) ≡ (step capacity s.turn (state table₁ w₁.world)).deeds ++ deeds_of capacity l.turns (first_life w.world) =
    deeds_push capacity l.turns s.turn (first_life w.world) ∙ ap (λ (x : Outcome). x.deeds ++ deeds_of capacity l.turns (first_life w.world)) o in
    record {
      turns = l.turns ++ s.turn ∷ [];
      are = map_push (λ t. t.call) l.turns s.turn ∙ ap (λ cs. cs ++ s.turn.call ∷ []) l.are ∙ ap (λ x. calls ++ x ∷ []) s.is_of;
      rooms_are = map_push (λ t. t.has_room) l.turns s.turn ∙ ap (λ bs. bs ++ s.turn.has_room ∷ []) l.rooms_are ∙ ap (λ x. map (λ _. room) calls ++ x ∷ []) s.room_is ∙ sym (map_push (λ _. room) calls c);
      answers = answers_push capacity l.turns s.turn (first_life w.world) ∙ ap (λ xs. xs ++ (step capacity s.turn (run capacity l.turns (first_life w.world)).now).answer ∷ []) l.answers
          ∙ ap (λ (x : Outcome). rs ++ x.answer ∷ []) o ∙ ap (λ x. rs ++ x ∷ []) s.answers;
      reaches = ap (λ (x : Life). x.now) (run_push capacity l.turns s.turn (first_life w.world)) ∙ ap (λ (x : Outcome). x.after) o ∙ s.reaches;
      laid = s.laid ∙ ap (lay (passes (step capacity s.turn (state table₁ w₁.world)).deeds)) l.laid
          ∙ sym (lay_append (passes (step capacity s.turn (state table₁ w₁.world)).deeds) (passes (deeds_of capacity l.turns (first_life w.world))) a)
          ∙ ap (λ es. lay es a) (sym (passes_append (step capacity s.turn (state table₁ w₁.world)).deeds (deeds_of capacity l.turns (first_life w.world))) ∙ ap passes (sym d));
      acts = s.acts ++ l.acts;
      done = subst (λ ds. Done ds (s.acts ++ l.acts)) (sym d) (done_append (step capacity s.turn (state table₁ w₁.world)).deeds (deeds_of capacity l.turns (first_life w.world)) s.acts l.acts s.done l.done);
      grows = grows_then w.log w₁.log w₂.log l.acts s.acts l.grows s.grows;
      stands = λ none. stands capacity (first_life w.world) (record { empty = refl; none_open = none; unwritten = λ p. refl; none_came = λ p. refl }) (l.turns ++ s.turn ∷ []);
    }
