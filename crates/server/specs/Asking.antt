-- What a server is asked next.
use Rattle.std.specs.Prelude.{◌≡◌, ℕ, List, Some, None, Ok, Err, Option, Result}
use Rattle.host.specs.declared.call.CallError.{CallError}
use Rattle.host.specs.declared.call.AreaTooShort.{AreaTooShort}
use Rattle.host.specs.Talk.{Sight, areas}
use Rattle.requests.specs.declared.asked.Asked.{Asked}
use Rattle.requests.specs.declared.asked.MetaRow.{MetaRow}
use Rattle.requests.specs.declared.fault.RequestFault.{RequestFault}
use Rattle.requests.specs.Requests.{ReadsRequest}
use Rattle.server.specs.declared.refused.Refused.{Refused}
use Rattle.server.specs.declared.server.Next.{Next}
use Rattle.server.specs.declared.server.Next.TheVariants.{Request as a_request, Over}
use Rattle.server.specs.declared.server.Server.{Server}

-- what is asked, unless nothing more is
abbrev pub asked_in : Next → Option Asked
asked_in (a_request q) = Some q.asked
asked_in (Over s) = None

-- server s stands in the request, or comes back
abbrev pub GoesOn : Server → Result Next (Refused Server (CallError AreaTooShort RequestFault)) → Type 0
GoesOn s (Ok (a_request q)) = q.server ≡ s
GoesOn s (Ok (Over s')) = s' ≡ s
GoesOn s (Err e) = e.back ≡ s

-- what is read of the next request by a call that is lent no status area
abbrev pub ReadsNext : List MetaRow → List ℕ → Sight → ℕ → List ℕ → Result (Option Asked) RequestFault → Sight → List ℕ → List MetaRow → List ℕ → Type 0
ReadsNext rows text w p work r w' work' rows' text' = (status : List ℕ) → ReadsRequest rows text w p (areas work status) r w' (areas work' status) rows' text'
