-- The rules stand, and the books are honest.
use Rattle.std.proofs.Common.{◌≡◌, ℕ, ◌<◌, ◌≤◌, false, [], ◌++◌, Some, Option, sym, ap, ◌∙◌, subst, arith}
use Rattle.host.specs.Worlds.{Pipe, Process, gone, live, process}
use Rattle.records.specs.declared.record.Record.{Record}
use Rattle.records.specs.Keys.{same_key}
use Rattle.rules.specs.Stories.{all_given, one_if, faulted, stray_applies}
use Rattle.rules.specs.Lives.{Life, run, is_open}
use Rattle.rules.specs.Rules.{runs, is_at, Flushes, Rules, Honest, RulesStand, BooksStand}
use Rattle.rules.proofs.Totals.{total, In, of_process, one_of, count_total, length_total, all_held}
use Rattle.rules.proofs.Seats.{at, Inv, GoodAt, count_open}
use Rattle.rules.proofs.Steps.{Tale, tales, Whole, stands}
use Rattle.rules.proofs.Standing.{Good, flushes_of_flow}
use Rattle.rules.proofs.Keeping.{good_keeps}

abbrev Stays : Life → Type 0
Stays l = Inv Tale ([], []) (Whole Good) l.now.table l.now.world.procs (tales l.book l.ledger)

whole_of : (r : Record) (x : Process) (h : Tale) → GoodAt Tale ([], []) (Whole Good) r x h → Good r h.0
whole_of r gone h g = absurd g
whole_of r (live q) h g = g.0

its_process : (a b : ℕ) → ◌≡◌ {A = Option ℕ} (Some a) (Some b) → a ≡ b
its_process a b e = cc

module _ (l : Life) (v : Stays l) where
  good_of : (r : Record) → In r l.now.table → Good r (l.book r.process)
  good_of r i = whole_of r (at l.now.world.procs r.process) (l.book r.process, l.ledger r.process) (v.good r i)

  rules_of : Rules l
  rules_of = record {
    as_many = count_open l.now.world.procs ∙ v.as_many ∙ sym (length_total l.now.table);
    one_to_each = λ p. count_total (λ r. is_at p (runs r)) l.now.table ∙ v.one_to_each p;
    keys_differ = λ k. subst (λ n. n ≤ 1) (sym (count_total (λ r. same_key r.key k) l.now.table)) (v.keys_differ k);
    flushes_fit = all_held (λ r. (p : ℕ) → runs r ≡ Some p → faulted (l.book p) ≡ false → Flushes (l.book p)) l.now.table
        (λ r i p e f.
        subst (λ n. faulted (l.book n) ≡ false → Flushes (l.book n)) (its_process r.process p e) (λ f'. flushes_of_flow (l.book r.process) ((good_of r i).flow f')) f);
    no_stray_apply = all_held (λ r. (p : ℕ) → runs r ≡ Some p → stray_applies (l.book p) ≡ 0) l.now.table
        (λ r i p e. subst (λ n. stray_applies (l.book n) ≡ 0) (its_process r.process p e) (good_of r i).no_stray);
  }

  -- an open process has a record
  balance_of : (p : ℕ) (q : Pipe) → process l.now.world p ≡ live q → (r : Record) → In r l.now.table → r.process ≡ p → all_given (l.book p) ++ q.waiting ≡ l.ledger p
  balance_of p q e r i same =
      subst (λ n. process l.now.world n ≡ live q → all_given (l.book n) ++ q.waiting ≡ l.ledger n) same
      (λ e'. (subst (λ x. GoodAt Tale ([], []) (Whole Good) r x (l.book r.process, l.ledger r.process)) e' (v.good r i)).1) e

  honest_of : Honest l
  honest_of p q e =
      let one : 0 < total (of_process p) l.now.table = (let x = v.one_to_each p in let y = ap (λ z. one_if (is_open z)) e in omega arith) in
      let found = one_of p l.now.table one in
      balance_of p q e found.0 found.1 found.2

pub rules_stand : RulesStand
rules_stand capacity l b turns = rules_of (run capacity turns l) (stands Good good_keeps capacity l b turns)

pub books_stand : BooksStand
books_stand capacity l b turns = honest_of (run capacity turns l) (stands Good good_keeps capacity l b turns)
