-- Reading on, packet by packet, up to one that ends the reading.
use Rattle.std.specs.Prelude.{ℕ, zero, suc, List, ◌++◌, length}
use Rattle.host.specs.declared.fault.LineFault.TheVariants.{Host}
use Rattle.host.specs.Worlds.{waiting_of, stop_of}
use Rattle.host.specs.Talk.{Event, Wire, wire, Got, got, lost, then}

-- what is made of one packet: the reading goes on from another state, with what is noted of the packet; or it stops with an answer
pub data Turn (S A : Type 0) : Type 0 where
  goes : S → List Event → Turn S A
  stops : A → Turn S A

abbrev pub turned : {S A : Type 0} → (S → Wire → Got A) → Turn S A → Wire → Got A
turned more (goes s es) v = more s (wire v.end v.later (es ++ v.events))
turned more (stops a) v = got a v

-- at most so many packets
abbrev pub gather_in : {S X A : Type 0} → (Wire → Got X) → (S → X → Turn S A) → ℕ → S → Wire → Got A
gather_in reader step zero s v = lost (Host (stop_of v.end)) v
gather_in reader step (suc k) s v = then (reader v) (λ x u. turned (gather_in reader step k) (step s x) u)

-- as many as there are: fewer packets than bytes wait
unfoldable pub gather : {S X A : Type 0} → (Wire → Got X) → (S → X → Turn S A) → S → Wire → Got A
gather reader step s v = gather_in reader step (suc (length (waiting_of v.end))) s v
