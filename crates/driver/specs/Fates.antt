-- What becomes of a record and its process, in the table and at the host.
use Rattle.std.specs.Prelude.{◌≡◌, Bool, ◌||◌, [], ◌∷◌, List, Ok, is_some}
use Rattle.host.specs.Acts.{ending, Grows, Ended}
use Rattle.host.specs.Talk.{Sight}
use Rattle.records.specs.declared.record.Record.{Record}
use Rattle.records.specs.Places.{Place}
use Rattle.records.specs.declared.key.Key.{Key}
use Rattle.records.specs.Records.{lookup, without, inserted}
use Rattle.rules.specs.Steps.{Fate, stays, leaves, seated, has_free}
use Rattle.driver.specs.declared.fate.Fate.{Fate as InCode}
use Rattle.driver.specs.declared.fate.Fate.TheVariants.{Stays, Leaves}

abbrev pub fate_of : InCode → Fate
fate_of (Stays c o) = stays c.mask o
fate_of (Leaves how) = leaves how

-- a record stands in its place, as it is to stay; or its place is free, and its process was ended
abbrev pub Settles : Record → Fate → List Place → Sight → List Place → Sight → Type 0
Settles r (stays m o) table w table' w' = (inserted table (seated r m o) ≡ Ok table') × (w' ≡ w)
Settles r (leaves how) table w table' w' = (table' ≡ without table r.key) × Ended w.world r.process w'.world × Grows w.log (ending r.process how ∷ []) w'.log

-- the key is known, or a place is free for it
abbrev pub has_place : List Place → Key → Bool
has_place table k = is_some (lookup table k) || has_free table
