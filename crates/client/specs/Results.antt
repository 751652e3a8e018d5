-- A result: payloads up to a flush, and then the final status.
-- From gitattributes, long running filter process; docs/PROTOCOL.md, A result.
use Rattle.std.specs.Prelude.{◌≡◌, ℕ, List, [], ◌∷◌, take, Some, None, Ok, Option, Result}
use Rattle.packetline.specs.Packets.{Pkt, flush, line}
use Rattle.host.specs.declared.fault.LineFault.{LineFault}
use Rattle.host.specs.Talk.{Wire, Got, got, then, read_content}
use Rattle.client.specs.declared.result.Output.{Output}
use Rattle.client.specs.declared.result.Output.TheVariants.{Payload, Final}
use Rattle.process.specs.declared.status.Status.{Status}
use Rattle.process.specs.Given.{ReadsAs}
use Rattle.process.specs.Statuses.{read_status, StatusLines}

-- a payload, or the final status
pub data Piece : Type 0 where
  payload : List ℕ → Piece
  final : Status → Piece

-- an answer whose payload lies at the front of an area
abbrev pub piece_of : List ℕ → Output → Piece
piece_of area (Payload n) = payload (take n area)
piece_of area (Final s) = final s

-- the length of an answer's payload
abbrev pub output_length : Output → ℕ
output_length (Payload n) = n
output_length (Final s) = 0

-- The talk

abbrev pub as_final : Status → Wire → Got Piece
as_final s v = got (final s) v

abbrev pub final_then : Option (List ℕ) → Wire → Got Piece
final_then (Some l) v = got (payload l) v
final_then None v = then (read_status v) as_final

-- one packet of content; at a flush the status that follows it
abbrev pub read_piece : Wire → Got Piece
read_piece v = then (read_content v) final_then

-- What it means

-- A payload is answered exactly if what was given decodes to one packet with it, and a final status exactly if it decodes to a flush and lines that tell it.
pub record PieceLaw (sent given : List ℕ) (r : Result Piece LineFault) : Type 0 where
  pub silent : sent ≡ []
  pub payloads : (l : List ℕ) → r ≡ Ok (payload l) → ReadsAs given (line l ∷ [])
  pub all_payloads : (l : List ℕ) → ReadsAs given (line l ∷ []) → r ≡ Ok (payload l)
  pub finals : (s : Status) → r ≡ Ok (final s) → (ps : List Pkt) × ReadsAs given (flush ∷ ps) × StatusLines ps s
  pub all_finals : (ps : List Pkt) (s : Status) → ReadsAs given (flush ∷ ps) → StatusLines ps s → r ≡ Ok (final s)
