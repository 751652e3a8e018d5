-- How the id of an object is told.
use Rattle.std.specs.Prelude.{ℕ, ◌/◌, ◌%◌, List, [], ◌∷◌, flat_map}
use Rattle.packetline.specs.Packets.{hex_char}

-- a byte in two digits, in lower case
abbrev pub byte_digits : ℕ → List ℕ
byte_digits b = hex_char (b / 16) ∷ hex_char (b % 16) ∷ []

-- the digits of an id, byte by byte
abbrev pub id_digits : List ℕ → List ℕ
id_digits bytes = flat_map byte_digits bytes
