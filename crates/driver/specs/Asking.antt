-- What a caller says of content, as a table's call.
use Rattle.std.specs.Prelude.{ℕ, List}
use Rattle.std.specs.Option.{option_map}
use Rattle.records.specs.declared.context.Context.{Context}
use Rattle.records.specs.declared.context.Delay.{Delay}
use Rattle.rules.specs.Calls.{Asked}

abbrev pub asked_of : Context → Delay → List ℕ → Asked
asked_of c d content = record { rela_path = c.rela_path.now; ref_name = option_map (λ x. x.now) c.ref_name; treeish = c.treeish; blob = c.blob; delay = d; content = content }
