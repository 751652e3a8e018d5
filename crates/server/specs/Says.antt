-- Packets that a server sends in one call.
use Rattle.std.specs.Prelude.{◌≡◌, ℕ, List, [], ◌∷◌, ◌++◌, Ok, Err, Result}
use Rattle.packetline.specs.Packets.{Pkt, packets}
use Rattle.host.specs.declared.fault.LineFault.{LineFault}
use Rattle.host.specs.Talk.{Sight, send_all}
use Rattle.process.specs.Given.{WorksBy}

-- the packets before one of these were sent, and nothing else
abbrev pub Before : List Pkt → List ℕ → Type 0
Before ps sent = (first : List Pkt) × ((refused : Pkt) × ((rest : List Pkt) × (ps ≡ first ++ refused ∷ rest) × (sent ≡ packets first)))

-- A call that says these packets succeeds exactly if they were sent, and nothing else was; at a fault those before the refused one were. Nothing is given.
pub record SaysLaw (ps : List Pkt) (sent given : List ℕ) (r : Result (Unit {0}) LineFault) : Type 0 where
  pub nothing_given : given ≡ []
  pub says : r ≡ Ok tt → sent ≡ packets ps
  pub only : sent ≡ packets ps → r ≡ Ok tt
  pub stops : (f : LineFault) → r ≡ Err f → Before ps sent

-- a call says these packets, up to the first that is refused
abbrev pub Says : List Pkt → Sight → ℕ → List ℕ → Result (Unit {0}) LineFault → Sight → List ℕ → Type 0
Says ps w p work r w' work' = WorksBy (SaysLaw ps) (send_all ps) w p work r w' work'
