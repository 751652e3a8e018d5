-- Content goes out in parts.
use Rattle.std.specs.Prelude.{◌≡◌, ℕ, zero, suc, true, List, [], ◌∷◌, ◌++◌, map, length, take, drop}
use Rattle.packetline.specs.Packets.{line, all_sendable}

-- a content has no more parts than bytes
abbrev pub parts_in : ℕ → List ℕ → List (List ℕ)
parts_in zero c = []
parts_in (suc k) [] = []
parts_in (suc k) (b ∷ c) = take 65516 (b ∷ c) ∷ parts_in k (drop 65516 (b ∷ c))

-- content cut into parts of 65,516 bytes, the last perhaps shorter; empty content has none
unfoldable pub parts : List ℕ → List (List ℕ)
parts c = parts_in (length c) c

abbrev pub joined : List (List ℕ) → List ℕ
joined [] = []
joined (x ∷ xs) = x ++ joined xs

-- the parts are the content, in order, and each can be sent
abbrev pub Parted : List ℕ → Type 0
Parted c = (joined (parts c) ≡ c) × (all_sendable (map line (parts c)) ≡ true)
