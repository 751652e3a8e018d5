-- The names that a table desires of a process: the operations, and delay.
use Rattle.std.specs.Prelude.{Bool, List, [], ◌∷◌, ◌++◌, codes, replicate, refl}
use Rattle.std.proofs.Common.{arith}
use Rattle.slices.specs.declared.name.Name.{Name}
use Rattle.process.specs.declared.capabilities.Capabilities.{Capabilities}
use Rattle.process.specs.Masks.{holds}
use Rattle.records.specs.declared.operation.Operation.{Operation}
use Rattle.records.specs.Operations.{operation_place}

abbrev pub clean_name : Name
clean_name = record { text = record { bytes = codes "clean" ++ replicate 59 0; len = 5; room = refl; fits = omega arith }; lawful = refl }

abbrev pub smudge_name : Name
smudge_name = record { text = record { bytes = codes "smudge" ++ replicate 58 0; len = 6; room = refl; fits = omega arith }; lawful = refl }

abbrev pub delay_name : Name
delay_name = record { text = record { bytes = codes "delay" ++ replicate 59 0; len = 5; room = refl; fits = omega arith }; lawful = refl }

-- in the order of their bits
unfoldable pub desired_names : List Name
desired_names = clean_name ∷ smudge_name ∷ delay_name ∷ []

-- whether a process can do an operation: it named it, and no abort took it away
abbrev pub can_do : Operation → Capabilities → Bool
can_do op c = holds c.mask (operation_place op)

-- whether a process named delay
abbrev pub can_delay : Capabilities → Bool
can_delay c = holds c.mask 2
