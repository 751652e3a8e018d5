-- What a server's value says of the names that are shared.
use Rattle.std.specs.Prelude.{ℕ, List, take}
use Rattle.handshake.specs.declared.agreement.Accord.{Accord}
use Rattle.handshake.specs.declared.shared.Shared.{Shared}
use Rattle.handshake.specs.Servers.{Met, met}

abbrev pub places_of : Shared → List ℕ
places_of s = take s.count s.places

-- the version and the shared names of an accord
abbrev pub met_by : Accord → Met
met_by a = met a.version (places_of a.shared)
