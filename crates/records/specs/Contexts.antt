-- What a process is told of the content that it is given, and when that is within its limits.
use Rattle.std.specs.Prelude.{Bool, true, ◌&&◌, IfSome}
use Rattle.std.specs.Option.{option_map_or}
use Rattle.records.specs.declared.context.Context.{Context}
use Rattle.records.specs.Limits.{is_path, is_ref_name, IsPath, IsRefName}

-- the path is within its limits, and the name of the reference if there is one; ids are by their type
abbrev pub is_context : Context → Bool
is_context c = is_path c.rela_path.now && option_map_or (λ name. is_ref_name name.now) c.ref_name true

-- the same in words
abbrev pub IsContext : Context → Type 0
IsContext c = IsPath c.rela_path.now × IfSome c.ref_name (λ name. IsRefName name.now)
