-- What passed in a call, as packets decoded from the bytes.
use Rattle.std.specs.Prelude.{◌≡◌, ℕ, Bool, true, cond, ◌&&◌, List, [], ◌∷◌, length, Some, None, Option, Result, nat_le}
use Rattle.packetline.specs.Packets.{Pkt, decode}
use Rattle.packetline.specs.Text.{utf8}
use Rattle.host.specs.declared.call.AreaTooShort.{AreaTooShort}
use Rattle.host.specs.declared.fault.LineFault.{LineFault}
use Rattle.host.specs.Refusals.{too_short}
use Rattle.host.specs.Calls.{has_room}
use Rattle.host.specs.Talk.{Wire, Got, Areas, areas, Sight, Talks, bytes_sent, bytes_given}

-- bytes decode to these packets, and nothing is left
abbrev pub ReadsAs : List ℕ → List Pkt → Type 0
ReadsAs bytes ps = decode bytes ≡ record { packets = ps; left = [] }

-- each payload is text
abbrev pub all_text : List (List ℕ) → Bool
all_text [] = true
all_text (l ∷ ls) = utf8 l && all_text ls

-- what a law says of a call: by the bytes that the process took, the bytes that it gave, and the answer
abbrev pub Law : Type 0 → Type 1
Law A = List ℕ → List ℕ → Result A LineFault → Type 0

-- a call goes as f says, and a law holds of what passed
abbrev pub TalksBy : {A : Type 0} → Law A → (Wire → Got A) → Sight → ℕ → Areas → Result A LineFault → Sight → Areas → Type 0
TalksBy law f w p a r w' a' = (t : Talks f w p a r w' a') × law (bytes_sent t.events) (bytes_given t.events) r

-- the same of a call that is lent no status area
abbrev pub WorksBy : {A : Type 0} → Law A → (Wire → Got A) → Sight → ℕ → List ℕ → Result A LineFault → Sight → List ℕ → Type 0
WorksBy law f w p work r w' work' = (status : List ℕ) → TalksBy law f w p (areas work status) r w' (areas work' status)

-- whether a work area and a status area have room for what may be laid there
abbrev pub have_room : List ℕ → List ℕ → Bool
have_room work status = has_room work && nat_le 128 (length status)

-- the fault of a caller who lends a work area and a status area: 1 where one of them has no room
abbrev pub rooms : List ℕ → List ℕ → Option AreaTooShort
rooms work status = cond (have_room work status) None (Some too_short)
