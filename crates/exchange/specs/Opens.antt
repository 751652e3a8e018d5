-- Results that wait to be read.
use Rattle.std.specs.Prelude.{◌≡◌, ℕ, List, [], ◌∷◌, ◌++◌, map, take, filter}
use Rattle.records.specs.Places.{Place}
use Rattle.records.specs.Records.{held, is_reading}
use Rattle.exchange.specs.declared.open.OpenResults.{OpenResults}
use Rattle.exchange.specs.declared.open.Next.{Next}
use Rattle.exchange.specs.declared.open.Next.TheVariants.{Open, None as none_left}

-- the processes of the results that a table's records are reading, in order
abbrev pub read_from : List Place → List ℕ
read_from table = map (λ r. r.process) (filter is_reading (held table))

-- the processes of open results
abbrev pub open_processes : OpenResults → List ℕ
open_processes o = take o.count o.processes

-- the last of them is taken out, or none is left
abbrev pub TakesOut : OpenResults → Next → Type 0
TakesOut o (Open t rest) = open_processes o ≡ open_processes rest ++ t.process ∷ []
TakesOut o none_left = open_processes o ≡ []
