-- The key in code: what is seen of each call, the words by which a status is judged, and which processes run.
-- From docs/RULES.md, The key.
use Rattle.std.specs.Prelude.{◌≡◌, ℕ, List, length, map}
use Rattle.packetline.specs.Packets.{Pkt, decode}
use Rattle.rules.specs.Calls.{Call, Turn}
use Rattle.rules.specs.Stories.{Telling, told, marked, cut}
use Rattle.rules.specs.Lives.{Life, run, Begins}
use Rattle.rules.specs.Key.{Seen, Runner, runner, Afterwards, dies, lives, reads, seen_calls, Keyed}
use Rattle.exchange.specs.declared.key.Seen.{Seen as SeenInCode}
use Rattle.exchange.specs.declared.key.Watched.{Watched}
use Rattle.exchange.specs.declared.key.Runner.{Runner as RunnerInCode}
use Rattle.exchange.specs.declared.key.Runners.{Runners}
use Rattle.exchange.specs.declared.key.Telling.{Telling as TellingInCode}
use Rattle.exchange.specs.declared.key.Telling.TheVariants.{Told, Marked, Cut}
use Rattle.exchange.specs.declared.key.Afterwards.{Afterwards as AfterwardsInCode}
use Rattle.exchange.specs.declared.key.Afterwards.TheVariants.{Dies, Lives, Reads}
use Rattle.exchange.specs.Values.{call_of}

abbrev pub seen_by : SeenInCode → Seen
seen_by s = record { talked_with = s.process; given = s.given.now; ended = s.ended }

abbrev pub runner_of : RunnerInCode → Runner
runner_of r = runner r.process r.reading

-- the processes that run
abbrev pub running : Runners → List Runner
running rs = map runner_of rs.all.items

abbrev pub afterwards_of : AfterwardsInCode → Afterwards
afterwards_of Dies = dies
afterwards_of Lives = lives
afterwards_of Reads = reads

-- Packets

abbrev pub packets_in : List ℕ → List Pkt
packets_in bytes = (decode bytes).packets

abbrev pub telling_of : TellingInCode → Telling
telling_of (Told s) = told s
telling_of Marked = marked
telling_of Cut = cut

-- Calls

-- a call with what was seen of it; a listing is lent so many rows and so much room
abbrev pub watched_call : ℕ → ℕ → Watched → Call × Seen
watched_call rows room w = (call_of rows room w.call, seen_by w.seen)

-- These runners are the processes that run after these calls: of every life from an empty table and no open process, in which these calls were made
-- and this was seen of each, they are the open processes at its end, each once.
abbrev pub TellsWhoRuns : List Watched → List Runner → Type 0
TellsWhoRuns calls rs =
    (capacity rows room : ℕ) (l : Life) → Begins l → (turns : List Turn) → seen_calls capacity turns l ≡ map (watched_call rows room) calls
    → Keyed (length l.now.table) (run capacity turns l) rs
