-- What a mirror means.
use Rattle.std.specs.Prelude.{◌≡◌, ℕ, ◌-◌, ◌<◌, ◌^◌, Bool, true, false, cond, List, [], ◌∷◌, map, length, take, Ok, Err, codes, Result, slice_index_or}
use Rattle.slices.specs.declared.name.Name.{Name}
use Rattle.slices.specs.Names.{name_bytes}
use Rattle.packetline.specs.Packets.{Pkt, whole, front, packets}
use Rattle.host.specs.declared.fault.Fault.{Fault}
use Rattle.host.specs.declared.fault.NotStarted.{NotStarted}
use Rattle.host.specs.Worlds.{Pipe, Process, gone, live, World, process}
use Rattle.mirror.specs.declared.seat.Seat.{Seat}
use Rattle.mirror.specs.declared.mirror.Mirror.{Mirror}
use Rattle.mirror.specs.Memory.{prefix_of, waiting_in}
use Rattle.mirror.specs.Stages.{Stage, hailing, hears, GoesOn}
use Rattle.mirror.specs.Plans.{pipe_at}
use Rattle.mirror.specs.Servers.{stage_of}

abbrev pub pipe_of : List ℕ → List Name → Seat → Pipe
pipe_of prefix names s = pipe_at prefix names (stage_of s.server) (waiting_in s.answer) s.allowance

abbrev pub process_of : List ℕ → List Name → Seat → Process
process_of prefix names s = cond s.is_open (live (pipe_of prefix names s)) gone

-- the first count seats are the processes in the order of their starts; any command can be started
abbrev pub mirror_world : List ℕ → List Name → List Seat → ℕ → World
mirror_world prefix names seats count = record { procs = map (process_of prefix names) (take count seats); startable = λ _. true }

abbrev pub world_of : Mirror → World
world_of m = mirror_world (prefix_of m.house) m.house.names m.seats m.count

-- a mirror where nothing was started
abbrev pub unstarted : World
unstarted = record { procs = []; startable = λ _. true }

-- the names of what the servers can do
abbrev pub Skills : List Name → Type 0
Skills names = map name_bytes names ≡ codes "clean" ∷ codes "smudge" ∷ []

-- an open process of a mirror, by where its server stands, what waits, and how many bytes it takes
abbrev pub StandsAt : World → ℕ → List Name → Stage → List ℕ → ℕ → Type 0
StandsAt w p names s waiting allowance = process w p ≡ live (pipe_at (codes "git-filter") names s waiting allowance)

-- a process that is started takes 2^40 bytes, and its server waits for the client's welcome
abbrev pub StartsServer : Result ℕ NotStarted → World → Type 0
StartsServer (Ok n) w' = (names : List Name) × Skills names × StandsAt w' n names hailing [] (2 ^ 40)
StartsServer (Err e) w' = Unit {0}

-- Where a packet is sent to a process at which nothing waits, what waits then is what its server's talk says when it hears the packet, and its server
-- stands where that talk goes on.
abbrev pub Mirrors : World → ℕ → List ℕ → Result (Unit {0}) Fault → World → Type 0
Mirrors w p bytes (Ok _) w' =
    (names : List Name) (s : Stage) (allowance : ℕ) (x : Pkt) → StandsAt w p names s [] allowance → front bytes ≡ whole x bytes []
    → StandsAt w' p names (hears (codes "git-filter") names s x).to (packets (hears (codes "git-filter") names s x).says) (allowance - length bytes)
    × GoesOn (codes "git-filter") names s x
Mirrors w p bytes (Err e) w' = Unit {0}

-- whether a process is open, by its seat
abbrev pub Opened : Mirror → ℕ → Bool → Type 0
Opened m p true = (p < m.count) × ((d : Seat) → (slice_index_or m.seats p d).is_open ≡ true)
Opened m p false = process (world_of m) p ≡ gone
