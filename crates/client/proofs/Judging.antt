-- A caller who is not at fault.
use Rattle.std.proofs.Common.{◌≡◌, ℕ, ◌≤◌, true, List, length, None, arith}
use Rattle.std.proofs.lemmas.Bool.Decides.{nat_tests}
use Rattle.slices.specs.declared.name.Name.{Name}
use Rattle.packetline.specs.Packets.{all_sendable}
use Rattle.client.specs.declared.invoke.Meta.{Meta}
use Rattle.client.specs.Greetings.{handshake_fault}
use Rattle.client.specs.Requests.{request, invoke_fault}

pub handshake_right : (work versions : List ℕ) (names : List Name) → 65520 ≤ length work → length versions ≤ 16 → length names ≤ 32 → handshake_fault work versions names ≡ None
handshake_right work versions names h k l = grind (arith, nat_tests)

pub invoke_right : (work status command : List ℕ) (ms : List Meta) → 65520 ≤ length work → 128 ≤ length status → all_sendable (request command ms) ≡ true → invoke_fault work status command ms ≡ None
invoke_right work status command ms h k l = grind (arith, nat_tests)
