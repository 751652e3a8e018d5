-- The worked cases, one table over the definitions.
-- From docs/PROTOCOL.md, Worked cases.
use Rattle.std.specs.Prelude.{◌≡◌, ℕ, true, false, List, length, take, Some, None, Err, codes}
use Rattle.packetline.specs.Packets.{header, Pkt, line, framable, packet, line_pkt}
use Rattle.packetline.specs.Text.{number_of}
use Rattle.packetline.specs.Metadata.{pair_of}
use Rattle.process.specs.declared.status.Status.{Status}
use Rattle.process.specs.declared.status.Status.TheVariants.{Previous, Unset}
use Rattle.process.specs.Given.{ReadsAs}
use Rattle.process.specs.Statuses.{named, StatusLines}

-- bytes that decode to lines that tell a status
abbrev pub Tell : List ℕ → Status → Type 0
Tell bytes s = (ps : List Pkt) × ReadsAs bytes ps × StatusLines ps s

pub record Worked : Type 0 where
  -- `a` frames as `0005a`
  pub a_frames : packet (line_pkt (codes "a")) ≡ codes "0005a"
  -- 65,516 bytes can be framed, and go under `fff0`; none and 65,517 cannot
  pub most : (payload : List ℕ) → length payload ≡ 65516 → (framable payload ≡ true) × (take 4 (packet (line payload)) ≡ codes "fff0")
  pub none : (payload : List ℕ) → length payload ≡ 0 → framable payload ≡ false
  pub too_many : (payload : List ℕ) → length payload ≡ 65517 → framable payload ≡ false
  -- `fff1`, `0004` and `0003` are no headers
  pub fff1 : header (codes "fff1") ≡ Err 20
  pub four : header (codes "0004") ≡ Err 20
  pub three : header (codes "0003") ≡ Err 20
  -- `+2` is 2, and 18446744073709551616 is no number
  pub plus_two : number_of (codes "+2") ≡ Some 2
  pub two_to_the_64th : number_of (codes "18446744073709551616") ≡ None
  -- `a=b=c` gives `a` and `b=c`
  pub first_sign : pair_of (codes "a=b=c") ≡ Some (codes "a", codes "b=c")
  -- a flush alone is Previous; `hello` is Unset; `status=success`, `status=error` is error
  pub flush_alone : Tell (codes "0000") Previous
  pub hello : Tell (codes "0009hello0000") Unset
  pub last_wins : Tell (codes "0012status=success0010status=error0000") (named (codes "error"))
