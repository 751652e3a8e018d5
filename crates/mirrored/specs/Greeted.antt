-- A client that shakes hands with a process of a mirror.
use Rattle.std.specs.Prelude.{◌≡◌, ℕ, ◌-◌, ◌≤◌, true, false, List, [], length, Ok, Result}
use Rattle.slices.specs.declared.name.Name.{Name}
use Rattle.packetline.specs.declared.encode.Error.{Error as Misuse}
use Rattle.host.specs.declared.call.CallError.{CallError}
use Rattle.host.specs.Worlds.{World}
use Rattle.process.specs.Masks.{holds}
use Rattle.handshake.specs.declared.protocol.Protocol.{Protocol}
use Rattle.handshake.specs.declared.protocol.Refusal.{Refusal}
use Rattle.client.specs.declared.client.Client.{Client}
use Rattle.mirror.specs.Stages.{hailing, idle}
use Rattle.mirror.specs.Worlds.{Skills, StandsAt}

-- the client knows its process, which speaks version 2, cleans and smudges, and does not delay: of the names that the client desires the first two are set
pub record IsGreeted (p : ℕ) (c : Client) : Type 0 where
  pub process : c.process ≡ p
  pub version : c.version ≡ 2
  pub cleans : holds c.capabilities.mask 0 ≡ true
  pub smudges : holds c.capabilities.mask 1 ≡ true
  pub delays_not : holds c.capabilities.mask 2 ≡ false

-- A process that was just started, and takes the 103 bytes that the client sends, is greeted, and waits for a request then.
abbrev pub Greets : World → ℕ → List ℕ → Result Client (CallError Misuse (Refusal Protocol)) → World → Type 0
Greets w p work r w' =
    (names : List Name) (n : ℕ) → Skills names → StandsAt w p names hailing [] n → 103 ≤ n → 65520 ≤ length work
    → ((c : Client) × (r ≡ Ok c) × IsGreeted p c) × StandsAt w' p names idle [] (n - 103)
