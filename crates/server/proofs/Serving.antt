-- A caller who shakes hands with a client and is not at fault.
use Rattle.std.proofs.Common.{◌≡◌, ℕ, ◌≤◌, List, length, None, arith}
use Rattle.std.proofs.lemmas.Bool.Decides.{nat_tests}
use Rattle.slices.specs.declared.name.Name.{Name}
use Rattle.server.specs.Greetings.{serve_fault}

pub serve_right : (work : List ℕ) (names : List Name) → 65520 ≤ length work → length names ≤ 32 → serve_fault work names ≡ None
serve_right work names h k = grind (arith, nat_tests)
