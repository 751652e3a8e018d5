-- The three rules that stand in the whole life of a table.
-- From docs/RULES.md, The rules.
use Rattle.std.specs.Prelude.{◌≡◌, ℕ, ◌+◌, ◌*◌, ◌≤◌, Bool, false, List, ◌++◌, length, Some, None, Option, ◌==◌}
use Rattle.std.specs.List.{All, count_by}
use Rattle.packetline.specs.Packets.{flushes}
use Rattle.host.specs.Worlds.{Pipe, live, process}
use Rattle.records.specs.declared.key.Key.{Key}
use Rattle.records.specs.declared.record.Record.{Record}
use Rattle.records.specs.Keys.{same_key}
use Rattle.records.specs.Records.{held}
use Rattle.rules.specs.Calls.{Turn}
use Rattle.rules.specs.Stories.{Story, all_given, all_sent, one_if, lists, exchanges, results, open_count, faulted, stray_applies}
use Rattle.rules.specs.Lives.{Life, run, is_open, Begins}

-- the process of a record; each record has one
abbrev pub runs : Record → Option ℕ
runs r = Some r.process

abbrev pub is_at : ℕ → Option ℕ → Bool
is_at p None = false
is_at p (Some n) = n == p

-- Flush packets, counted from the first byte on: what a process gave, and what it was sent.
pub record Flushes (h : Story) : Type 0 where
  pub given : flushes (all_given h) ≡ 2 + 2 * lists h + exchanges h + 3 * results h + open_count h
  pub sent : flushes (all_sent h) ≡ 2 + lists h + 2 * (exchanges h + results h + open_count h)

pub record Rules (l : Life) : Type 0 where
  -- (a) the open processes are as many as the records, one to each, and no two records share a key
  pub as_many : count_by is_open l.now.world.procs ≡ length (held l.now.table)
  pub one_to_each : (p : ℕ) → count_by (λ r. is_at p (runs r)) (held l.now.table) ≡ one_if (is_open (process l.now.world p))
  pub keys_differ : (k : Key) → count_by (λ r. same_key r.key k) (held l.now.table) ≤ 1
  -- (b) a recorded process that never had a line fault has given and been sent so many flushes
  pub flushes_fit : All (λ r. (p : ℕ) → runs r ≡ Some p → faulted (l.book p) ≡ false → Flushes (l.book p)) (held l.now.table)
  -- (c) a recorded process was sent no apply for an operation that by then it had never named, or had answered with abort
  pub no_stray_apply : All (λ r. (p : ℕ) → runs r ≡ Some p → stray_applies (l.book p) ≡ 0) (held l.now.table)

-- The books are honest: of each open process, what it gave and then what still waits is all that came to wait. (What it was sent are the bytes of the
-- sends that it took: only those are events of that kind.)
abbrev pub Honest : Life → Type 0
Honest l = (p : ℕ) (q : Pipe) → process l.now.world p ≡ live q → all_given (l.book p) ++ q.waiting ≡ l.ledger p

-- after every list of calls, whatever the host leaves free
abbrev pub RulesStand : Type 0
RulesStand = (capacity : ℕ) (l : Life) → Begins l → (turns : List Turn) → Rules (run capacity turns l)

abbrev pub BooksStand : Type 0
BooksStand = (capacity : ℕ) (l : Life) → Begins l → (turns : List Turn) → Honest (run capacity turns l)
