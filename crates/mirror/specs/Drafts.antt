-- What a line does to a request that is being asked.
use Rattle.std.specs.Prelude.{◌≡◌, ℕ, List, [], Some, Ok, Err, Result}
use Rattle.packetline.specs.Packets.{line}
use Rattle.requests.specs.declared.fault.RequestFault.{RequestFault}
use Rattle.requests.specs.Stored.{Request, request}
use Rattle.requests.specs.Requests.{command_in, meta_step}
use Rattle.process.specs.Gather.{goes, stops}

-- a request begins by the command in a line, or there is none
abbrev pub Commanded : List ℕ → Result (Unit {0}) RequestFault → Request → Type 0
Commanded l (Ok _) q' = (c : List ℕ) × (command_in 8192 (Some l) ≡ Ok (Some c)) × (q' ≡ request c [])
Commanded l (Err e) q' = (n : ℕ) × (command_in 8192 (Some l) ≡ Err n)

-- a request goes on by the pair in a line, or the line is refused
abbrev pub Added : Request → List ℕ → Result (Unit {0}) RequestFault → Request → Type 0
Added q l (Ok _) q' = meta_step 16 8192 q (line l) ≡ goes q' []
Added q l (Err e) q' = (n : ℕ) × (meta_step 16 8192 q (line l) ≡ stops (Err n))
