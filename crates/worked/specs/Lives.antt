-- Two lives, packet by packet.
use Rattle.std.specs.Prelude.{◌≡◌, ℕ, true, false, List, [], ◌∷◌, ◌++◌, None, Some, codes, replicate, take, refl}
use Rattle.std.specs.List.{count_by}
use Rattle.std.proofs.Common.{arith}
use Rattle.packetline.specs.Packets.{Pkt, flush, line_pkt, packets, flushes}
use Rattle.host.specs.declared.fault.Fault.TheVariants.{Closed}
use Rattle.host.specs.declared.fault.Snag.TheVariants.{Broken}
use Rattle.host.specs.Worlds.{Pipe, next}
use Rattle.process.specs.declared.status.Word.TheVariants.{Abort, Error}
use Rattle.process.specs.declared.status.Status.TheVariants.{Named}
use Rattle.records.specs.declared.context.Delay.{Delay}
use Rattle.records.specs.declared.context.Delay.TheVariants.{Allow, Forbid}
use Rattle.records.specs.declared.key.Key.{Key}
use Rattle.records.specs.declared.operation.Operation.TheVariants.{Clean, Smudge}
use Rattle.rules.specs.Calls.{Asked, Call, apply, fetch, list, read, close_all, Turn}
use Rattle.rules.specs.Answers.{passed, delayed, result, payload, finished, paths, done, failed, unfinished}
use Rattle.rules.specs.Stories.{all_given, all_sent, lists, exchanges, results, open_count, aborted, stray_applies}
use Rattle.rules.specs.Lives.{Life, first_life, run, answers_of, is_open}
use Rattle.rules.specs.Key.{seen_calls, runner, key}

unfoldable pub lfs : Key
lfs = record { text = record { bytes = codes "git-lfs" ++ replicate 121 0; len = 7; room = refl; fits = omega arith }; lawful = refl }

-- a line that ends in LF
abbrev pub says : List ℕ → Pkt
says text = line_pkt (text ++ 10 ∷ [])

unfoldable pub welcome : List Pkt
welcome =
    says (codes "git-filter-server") ∷ says (codes "version=2") ∷ flush ∷ says (codes "capability=clean") ∷ says (codes "capability=smudge") ∷ says (codes "capability=delay") ∷ flush ∷ []

-- a process that plays packets behind its welcome, and replies nothing
unfoldable pub playing : List Pkt → Pipe
playing ps = record { waiting = packets (welcome ++ ps); ending = Closed; allowance = 100000; snag = Broken; replies = next (λ bytes waited. []) }

-- a call over a host that can start any command, as such a process
unfoldable pub by : List Pkt → Call → Turn
by ps c = record { call = c; has_room = true; newcomer = playing ps; startable_then = λ k. true; startable_last = λ k. true; later = λ n bytes waited. [] }

unfoldable pub empty : Life
empty = first_life (record { procs = []; startable = λ k. true })

unfoldable pub asks : Delay → List ℕ → Asked
asks d content = record { rela_path = codes "a.txt"; ref_name = Some (codes "refs/heads/main"); treeish = None; blob = None; delay = d; content = content }

-- One delayed apply, one list, and one result read out

unfoldable pub delaying : List Pkt
delaying =
    says (codes "status=delayed") ∷ flush ∷ says (codes "pathname=a.txt") ∷ flush ∷ says (codes "status=success") ∷ flush
    ∷ says (codes "status=success") ∷ flush ∷ line_pkt (codes "hello") ∷ flush ∷ flush ∷ []

unfoldable pub delayed_calls : List Turn
delayed_calls =
    by delaying (apply lfs Clean (asks Allow (codes "hello"))) ∷ by delaying (list lfs 4 100) ∷ by delaying (fetch lfs Clean (codes "a.txt")) ∷ by delaying (read 0) ∷ by delaying (read 0) ∷ []

-- A result that is aborted at its end: its operation is passed over from then on, and the other is not

unfoldable pub aborting : List Pkt
aborting =
    says (codes "status=success") ∷ flush ∷ line_pkt (codes "hello") ∷ flush ∷ says (codes "status=abort") ∷ flush ∷ says (codes "status=error") ∷ flush ∷ []

unfoldable pub aborted_calls : List Turn
aborted_calls =
    by aborting (apply lfs Clean (asks Forbid [])) ∷ by aborting (read 0) ∷ by aborting (read 0) ∷ by aborting (apply lfs Clean (asks Forbid []))
    ∷ by aborting (apply lfs Smudge (asks Forbid [])) ∷ by aborting close_all ∷ []

pub record ExamplesStand : Type 0 where
  pub delayed_answers : answers_of 16 delayed_calls empty ≡ delayed ∷ paths (record { named = 1; stored = 1; full = false }) ∷ result 0 ∷ payload (codes "hello") ∷ finished ∷ []
  -- L, S, R and O are 1, 1, 1 and 0: 8 flushes came, and 7 went
  pub counts : (lists ((run 16 delayed_calls empty).book 0) ≡ 1) × (exchanges ((run 16 delayed_calls empty).book 0) ≡ 1) × (results ((run 16 delayed_calls empty).book 0) ≡ 1) × (open_count ((run 16 delayed_calls empty).book 0) ≡ 0)
  pub came : flushes (all_given ((run 16 delayed_calls empty).book 0)) ≡ 8
  pub went : flushes (all_sent ((run 16 delayed_calls empty).book 0)) ≡ 7
  pub aborted_answers : answers_of 16 aborted_calls empty ≡ result 0 ∷ payload (codes "hello") ∷ unfinished (Named Abort 5) ∷ passed ∷ failed (Named Error 5) ∷ done ∷ []
  pub aborted_clean : aborted Clean ((run 16 aborted_calls empty).book 0) ≡ true
  pub aborted_smudge : aborted Smudge ((run 16 aborted_calls empty).book 0) ≡ false
  pub none_astray : stray_applies ((run 16 aborted_calls empty).book 0) ≡ 0
  pub none_open : count_by is_open (run 16 aborted_calls empty).now.world.procs ≡ 0
  -- the key: a result is being read behind the fetch, and not any more at the end; all are closed
  pub key_fetched : key (seen_calls 16 (take 3 delayed_calls) empty) [] ≡ runner 0 true ∷ []
  pub key_delayed : key (seen_calls 16 delayed_calls empty) [] ≡ runner 0 false ∷ []
  pub key_aborted : key (seen_calls 16 aborted_calls empty) [] ≡ []
