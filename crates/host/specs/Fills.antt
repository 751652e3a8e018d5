-- As many bytes as are wanted, however a host cuts them, and the takes that brought them.
use Rattle.std.specs.Prelude.{◌≡◌, ℕ, cond, List, [], ◌∷◌, ◌++◌, length, take, Ok, Err, Result, nat_le}
use Rattle.packetline.specs.Packets.{over}
use Rattle.host.specs.declared.fault.Fault.{Fault}
use Rattle.host.specs.Worlds.{World, waits, taken, stop}
use Rattle.host.specs.Acts.{Act, starting, taking, sending, ending, Log, Grows}

-- As many bytes as the area has lie over it; or all that waited lie over its front, and the ending is told.
pub record Filled (w : World) (p : ℕ) (area : List ℕ) (r : Result (Unit {0}) Fault) (w' : World) (area' : List ℕ) : Type 0 where
  pub answer : r ≡ cond (nat_le (length area) (length (waits w p))) (Ok tt) (Err (stop w p))
  pub after : w' ≡ taken w p (length area)
  pub laid : area' ≡ over (take (length area) (waits w p)) area

-- this act is a take from process p that brought these bytes
abbrev pub TakeOf : ℕ → Act → List ℕ → Type 0
TakeOf p (starting c r) b = ⊥
TakeOf p (taking o (Ok x)) b = (o ≡ p) × (b ≡ x)
TakeOf p (taking o (Err f)) b = (o ≡ p) × (b ≡ [])
TakeOf p (sending o x r) b = ⊥
TakeOf p (ending o h) b = ⊥

-- these acts, the latest first, are takes from process p that together brought these bytes
abbrev pub Joined : ℕ → List Act → List ℕ → Type 0
Joined p [] b = b ≡ []
Joined p (a ∷ acts) b = (x : List ℕ) × ((y : List ℕ) × (b ≡ x ++ y) × TakeOf p a y × Joined p acts x)

-- the log has grown by takes from process p that together brought b, and by nothing else
pub record Brought (p : ℕ) (before : Log) (b : List ℕ) (after : Log) : Type 0 where
  pub acts : List Act
  pub joined : Joined p acts b
  pub grows : Grows before acts after
