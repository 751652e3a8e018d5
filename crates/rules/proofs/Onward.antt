-- A life that goes on by one turn more.
use Rattle.std.proofs.Common.{◌≡◌, ℕ, List, [], ◌∷◌, ◌++◌, refl, ap, ◌∙◌}
use Rattle.host.specs.Worlds.{World}
use Rattle.records.specs.Places.{Place}
use Rattle.rules.specs.Calls.{Turn}
use Rattle.rules.specs.Answers.{Answer}
use Rattle.rules.specs.Steps.{State, state, step}
use Rattle.rules.specs.Lives.{Life, turn, run, answers_of, Begins}
use Rattle.rules.specs.Promises.{Stands, GoesOn}
use Rattle.rules.proofs.Standings.{rules_stand, books_stand}
use Rattle.rules.proofs.Keying.{key_stands}

pub run_push : (capacity : ℕ) (ts : List Turn) (t : Turn) (l : Life) → run capacity (ts ++ t ∷ []) l ≡ turn capacity t (run capacity ts l)
run_push capacity [] t l = refl
run_push capacity (u ∷ ts) t l = run_push capacity ts t (turn capacity u l)

pub answers_push : (capacity : ℕ) (ts : List Turn) (t : Turn) (l : Life) → answers_of capacity (ts ++ t ∷ []) l ≡ answers_of capacity ts l ++ (step capacity t (run capacity ts l).now).answer ∷ []
answers_push capacity [] t l = refl
answers_push capacity (u ∷ ts) t l = ap (λ rs. (step capacity u l.now).answer ∷ rs) (answers_push capacity ts t (turn capacity u l))

pub stands : (capacity : ℕ) (l : Life) → Begins l → (ts : List Turn) → Stands capacity ts l
stands capacity l b ts = record { rules = rules_stand capacity l b ts; books = books_stand capacity l b ts; key = key_stands capacity l b ts }

pub onward : (capacity : ℕ) (table : List Place) (w : World) (t : Turn) (r : Answer) (table' : List Place) (w' : World) → (step capacity t (state table w)).answer ≡ r → (step capacity t (state table w)).after ≡ state table' w'
    → (l : Life) → Begins l → (ts : List Turn) → (run capacity ts l).now ≡ state table w → GoesOn capacity l ts t r table' w'
onward capacity table w t r table' w' answers reaches l b ts here = record {
  answers = answers_push capacity ts t l ∙ ap (λ (s : State). answers_of capacity ts l ++ (step capacity t s).answer ∷ []) here ∙ ap (λ x. answers_of capacity ts l ++ x ∷ []) answers;
  reaches = ap (λ (x : Life). x.now) (run_push capacity ts t l) ∙ ap (λ (s : State). (step capacity t s).after) here ∙ reaches;
  stands = stands capacity l b (ts ++ t ∷ []);
}
