-- A client that exchanges content with a process of a mirror.
use Rattle.std.specs.Prelude.{◌≡◌, ℕ, ◌+◌, ◌≤◌, true, ◌⊎◌, List, [], ◌∷◌, ◌++◌, length, Ok, codes, Result}
use Rattle.slices.specs.declared.name.Name.{Name}
use Rattle.packetline.specs.declared.encode.Error.{Error as Misuse}
use Rattle.packetline.specs.Packets.{Pkt, flush, line, sendable, packets}
use Rattle.host.specs.declared.fault.LineFault.{LineFault}
use Rattle.host.specs.declared.call.CallError.{CallError}
use Rattle.host.specs.declared.call.AreaTooShort.{AreaTooShort}
use Rattle.host.specs.Worlds.{World}
use Rattle.process.specs.declared.status.Status.{Status}
use Rattle.process.specs.declared.status.Status.TheVariants.{Previous}
use Rattle.process.specs.Given.{have_room}
use Rattle.process.specs.Statuses.{named}
use Rattle.client.specs.Results.{Piece, payload, final}
use Rattle.mirror.specs.Stages.{idle}
use Rattle.mirror.specs.Worlds.{StandsAt}

-- a command whose content is given back
abbrev pub IsFilter : List ℕ → Type 0
IsFilter c = (c ≡ codes "clean") ⊎ (c ≡ codes "smudge")

-- the lines of a request for one pathname
abbrev pub asked_lines : List ℕ → List ℕ → List Pkt
asked_lines command pathname = line (codes "command=" ++ command) ∷ line (codes "pathname=" ++ pathname) ∷ flush ∷ []

-- what waits behind the status: the content as it came in a packet, none for no content, its flush, and no other status
abbrev pub given_back : List ℕ → List Pkt
given_back [] = flush ∷ flush ∷ []
given_back (b ∷ content) = line (b ∷ content) ∷ flush ∷ flush ∷ []

-- A process that stands idle is asked to clean or to smudge content of at most 4,096 bytes, for a pathname of at most 4,096 bytes: it answers success, stands
-- idle, and the content waits. At most 9,000 bytes are sent.
abbrev pub Asks : World → ℕ → List ℕ → List ℕ → List ℕ → List ℕ → List ℕ → Result Status (CallError Misuse LineFault) → World → Type 0
Asks w p work status command pathname content r w' =
    (names : List Name) (n : ℕ) → StandsAt w p names idle [] n → IsFilter command → length pathname ≤ 4096 → length content ≤ 4096 → 9000 ≤ n → have_room work status ≡ true
    → (r ≡ Ok (named (codes "success"))) × ((m : ℕ) × (n ≤ m + 9000) × StandsAt w' p names idle (packets (given_back content)) m)

-- Where content waits, it is read as it came; and where none does, the final status is Previous, and the process stands idle with nothing waiting.
pub record Takes (w : World) (p : ℕ) (work status : List ℕ) (r : Result Piece (CallError AreaTooShort LineFault)) (w' : World) : Type 0 where
  pub content : (names : List Name) (n : ℕ) (c : List ℕ) → StandsAt w p names idle (packets (line c ∷ flush ∷ flush ∷ [])) n → sendable (line c) ≡ true → have_room work status ≡ true
      → (r ≡ Ok (payload c)) × StandsAt w' p names idle (packets (flush ∷ flush ∷ [])) n
  pub ends : (names : List Name) (n : ℕ) → StandsAt w p names idle (packets (flush ∷ flush ∷ [])) n → have_room work status ≡ true
      → (r ≡ Ok (final Previous)) × StandsAt w' p names idle [] n
