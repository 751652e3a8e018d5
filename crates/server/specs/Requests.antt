-- A request's content, read payload by payload up to a flush.
-- From gitattributes, long running filter process; docs/PROTOCOL.md, Answering a request.
use Rattle.std.specs.Prelude.{◌≡◌, ℕ, List, [], ◌∷◌, take, Some, None, Ok, Err, Option, Result}
use Rattle.std.specs.Option.{option_map}
use Rattle.packetline.specs.Packets.{flush, line}
use Rattle.host.specs.declared.fault.LineFault.{LineFault}
use Rattle.host.specs.declared.call.CallError.{CallError}
use Rattle.host.specs.declared.call.AreaTooShort.{AreaTooShort}
use Rattle.process.specs.Given.{ReadsAs}
use Rattle.server.specs.declared.refused.Refused.{Refused}
use Rattle.server.specs.declared.request.Request.{Request}
use Rattle.server.specs.declared.response.Response.{Response}
use Rattle.server.specs.declared.request.Content.{Content}
use Rattle.server.specs.declared.request.Content.TheVariants.{Payload, End}

-- the payload of this length at the front of an area
abbrev pub part_at : List ℕ → Option ℕ → Option (List ℕ)
part_at area o = option_map (λ n. take n area) o

-- a payload, which lies at the front of an area, or none at the content's end
abbrev pub content_in : List ℕ → Content → Option (List ℕ)
content_in area (Payload q n) = Some (take n area)
content_in area (End a) = None

-- the length of a payload
abbrev pub content_length : Content → ℕ
content_length (Payload q n) = n
content_length (End a) = 0

-- a request once its content was read to its end or declared absent
abbrev pub response_to : Request → Response
response_to q = record { server = q.server }

-- what a read of request q hands back: q itself with a payload, and where the read is refused; at the content's end the request to be answered
abbrev pub ReadsOn : Request → Result Content (Refused Request (CallError AreaTooShort LineFault)) → Type 0
ReadsOn q (Ok (Payload q' n)) = q' ≡ q
ReadsOn q (Ok (End a)) = a ≡ response_to q
ReadsOn q (Err e) = e.back ≡ q

-- A payload is answered exactly if what was given decodes to one packet with it, and the content's end exactly if it decodes to a flush; nothing is sent.
pub record ContentLaw (sent given : List ℕ) (r : Result (Option (List ℕ)) LineFault) : Type 0 where
  pub silent : sent ≡ []
  pub payloads : (l : List ℕ) → r ≡ Ok (Some l) → ReadsAs given (line l ∷ [])
  pub all_payloads : (l : List ℕ) → ReadsAs given (line l ∷ []) → r ≡ Ok (Some l)
  pub ends : r ≡ Ok None → ReadsAs given (flush ∷ [])
  pub all_ends : ReadsAs given (flush ∷ []) → r ≡ Ok None
