-- Closing all processes is a step, one end after another.
use Rattle.std.proofs.Common.{◌≡◌, ℕ, Bool, false, cond, List, [], ◌∷◌, ◌++◌, map, None, sym, refl, ap, ◌∙◌, subst, ◌⊎◌, inl, inr}
use Rattle.std.specs.Prelude.{slice_index_or, slice_set}
use Rattle.std.specs.List.{list_any}
use Rattle.host.specs.declared.host.How.TheVariants.{Close}
use Rattle.host.specs.Worlds.{Process, gone, live, World, process}
use Rattle.host.specs.Acts.{Act, ending, Grows, Ended}
use Rattle.host.specs.Talk.{Areas, lay, Sight}
use Rattle.host.proofs.Logging.{grows_none, grows_then}
use Rattle.records.specs.declared.record.Record.{Record}
use Rattle.records.specs.Places.{Place}
use Rattle.records.specs.Records.{held, is_reading}
use Rattle.rules.specs.Calls.{Turn}
use Rattle.rules.specs.Answers.{done}
use Rattle.rules.specs.Steps.{state, Deed, starts, talks, ends, outcome, refuse, ended_as, ended, closed, closings, close, step}
use Rattle.rules.specs.Promises.{Done, passes, IsStep}
use Rattle.rules.proofs.Making.{is_step_by}

-- the processes of these records were ended, in order
abbrev pub AllEnded : List Record → World → World → Type 0
AllEnded [] w w' = w' ≡ w
AllEnded (r ∷ rs) w w' = (w₁ : World) × Ended w r.process w₁ × AllEnded rs w₁ w'

pub record Closes (rs : List Record) (w w' : Sight) : Type 0 where
  pub ended_all : AllEnded rs w.world w'.world
  pub acts : List Act
  pub done_all : Done (closings rs) acts
  pub grows : Grows w.log acts w'.log

pub closes_none : (w : Sight) → Closes [] w w
closes_none w = record { ended_all = refl; acts = []; done_all = refl; grows = grows_none w.log }

ended_more : (rs : List Record) (r : Record) (w w₁ w₂ : World) → AllEnded rs w w₁ → Ended w₁ r.process w₂ → AllEnded (rs ++ r ∷ []) w w₂
ended_more [] r w w₁ w₂ e d = (w₂, subst (λ x. Ended x r.process w₂) e d, refl)
ended_more (s ∷ rs) r w w₁ w₂ (u, d', e) d = (u, d', ended_more rs r u w₁ w₂ e d)

closings_push : (rs : List Record) (r : Record) → closings (rs ++ r ∷ []) ≡ ends r.process Close ∷ closings rs
closings_push [] r = refl
closings_push (s ∷ rs) r = ap (λ ds. ds ++ ends s.process Close ∷ []) (closings_push rs r)

-- one record more
pub closes_more : {rs : List Record} {w w₁ : Sight} (r : Record) {w₂ : Sight} → Closes rs w w₁ → Ended w₁.world r.process w₂.world → Grows w₁.log (ending r.process Close ∷ []) w₂.log → Closes (rs ++ r ∷ []) w w₂
closes_more {rs} {w} {w₁} r {w₂} c d grown = record {
  ended_all = ended_more rs r w.world w₁.world w₂.world c.ended_all d;
  acts = ending r.process Close ∷ c.acts;
  done_all = subst (λ ds. Done ds (ending r.process Close ∷ c.acts)) (sym (closings_push rs r)) (c.acts, refl, c.done_all);
  grows = grows_then w.log w₁.log w₂.log c.acts (ending r.process Close ∷ []) c.grows grown;
}

-- the same processes, and what can be started is the same or s
record Alike (s : List ℕ → Bool) (u w : World) : Type 0 where
  procs : u.procs ≡ w.procs
  startable : (u.startable ≡ w.startable) ⊎ (u.startable ≡ s)

alike_first : (s : List ℕ → Bool) (w : World) → Alike s w w
alike_first s w = record { procs = refl; startable = inl refl }

alike_one : (s : List ℕ → Bool) (u w : World) (p : ℕ) (w₁ : World) (x : Process) → process w p ≡ x → Alike s u w → Ended w p w₁ → Alike s (ended_as s u p x) w₁
alike_one s u w p w₁ gone e a d = subst (Alike s u) (sym (d.stays e)) a
alike_one s u w p w₁ (live q) e a d = record { procs = ap (λ xs. slice_set xs p gone) a.procs ∙ sym (d.closes q e); startable = inr refl }

alike_next : (s : List ℕ → Bool) (u w : World) (p : ℕ) (w₁ : World) → Alike s u w → Ended w p w₁ → Alike s (ended s u p) w₁
alike_next s u w p w₁ a d =
    subst (λ x. Alike s (ended_as s u p x) w₁) (ap (λ xs. slice_index_or xs p gone) (sym a.procs)) (alike_one s u w p w₁ (process w p) refl a d)

alike_all : (s : List ℕ → Bool) (rs : List Record) (u w w' : World) → Alike s u w → AllEnded rs w w' → Alike s (closed s rs u) w'
alike_all s [] u w w' a e = subst (Alike s u) (sym e) a
alike_all s (r ∷ rs) u w w' a (w₁, d, e) = alike_all s rs (ended s u r.process) w₁ w' (alike_next s u w r.process w₁ a d) e

alike_last : (s : List ℕ → Bool) (u w : World) → Alike s u w → s ≡ w.startable → u ≡ w
alike_last s u w a e = go a.startable
  where
    go : (u.startable ≡ w.startable) ⊎ (u.startable ≡ s) → u ≡ w
    go (inl x) = λ j. record { procs = a.procs j; startable = x j }
    go (inr x) = let y = x ∙ e in λ j. record { procs = a.procs j; startable = y j }

pub closed_is : (rs : List Record) (w w' : World) → AllEnded rs w w' → closed w'.startable rs w ≡ w'
closed_is rs w w' e = alike_last w'.startable (closed w'.startable rs w) w' (alike_all w'.startable rs w w w' (alike_first w'.startable w) e) refl

pub close_acts : (t : Turn) (table : List Place) (w : World) → list_any is_reading (held table) ≡ false
    → close t (state table w) ≡ outcome done (state (map (λ _. None) table) (closed t.startable_last (held table) w)) (closings (held table))
close_acts t table w idle =
    ap (λ z. cond z (refuse 4 (state table w)) (outcome done (state (map (λ _. None) table) (closed t.startable_last (held table) w)) (closings (held table)))) idle

no_talk : (rs : List Record) → passes (closings rs) ≡ []
no_talk [] = refl
no_talk (r ∷ rs) = passes_end (closings rs) r ∙ no_talk rs
  where
    passes_end : (ds : List Deed) (x : Record) → passes (ds ++ ends x.process Close ∷ []) ≡ passes ds
    passes_end [] x = refl
    passes_end (starts command n ∷ ds) x = passes_end ds x
    passes_end (talks p es bytes ∷ ds) x = ap (λ xs. es ++ xs) (passes_end ds x)
    passes_end (ends p how ∷ ds) x = passes_end ds x

-- every record's process was closed
pub closes_step : {capacity : ℕ} {table : List Place} {w w' : Sight} (a : Areas) (t : Turn) → step capacity t (state table w.world) ≡ close t (state table w.world) → list_any is_reading (held table) ≡ false
    → Closes (held table) w w' → t.startable_last ≡ w'.world.startable → IsStep capacity t.call t.has_room table w a done (map (λ _. None) table) w' a
closes_step {table = table} {w = w} {w' = w'} a t is idle c last =
    is_step_by t refl refl _ (is ∙ close_acts t table w.world idle) refl
    (ap (λ s. state (map (λ _. None) table) (closed s (held table) w.world)) last ∙ ap (state (map (λ _. None) table)) (closed_is (held table) w.world w'.world c.ended_all))
    (ap (λ es. lay es a) (sym (no_talk (held table)))) c.acts c.done_all c.grows
