-- A packet for each element of a list, and a flush behind them.
use Rattle.std.proofs.Common.{◌≡◌, ℕ, ◌+◌, ◌<◌, ◌≤◌, List, [], ◌∷◌, ◌++◌, map, length, get_or, drop, Ok, Err, Result, refl, ap, subst}
use Rattle.std.proofs.lemmas.List.{drop_all}
use Rattle.packetline.specs.Packets.{Pkt, flush}
use Rattle.host.specs.declared.fault.LineFault.{LineFault}
use Rattle.host.specs.declared.peer.Peer.{Peer}
use Rattle.host.specs.Worlds.{World}
use Rattle.host.specs.Acts.{Log}
use Rattle.host.specs.Talk.{Wire, Got, send, send_all}
use Rattle.host.specs.Peers.{Does}
use Rattle.host.proofs.Sends.{lines_more}
use Rattle.host.proofs.Peering.{OnTheWay, begun, arrived, sent_more, sent_stop, sent_all}

-- elements from the i-th on
pub lines_next : {X : Type 0} (f : X → Pkt) (xs : List X) (i : ℕ) (d : X) → i < length xs → map f (drop i xs) ++ flush ∷ [] ≡ f (get_or xs i d) ∷ (map f (drop (i + 1) xs) ++ flush ∷ [])
lines_next f xs i d h = ap (λ ps. ps ++ flush ∷ []) (lines_more f xs i d h)

pub lines_last : {X : Type 0} (f : X → Pkt) (xs : List X) (i : ℕ) → length xs ≤ i → map f (drop i xs) ++ flush ∷ [] ≡ flush ∷ []
lines_last f xs i h = ap (λ ys. map f ys ++ flush ∷ []) (drop_all i xs h)

module _ {H : Type 0} {log : H → Log} {world : H → World} where
  -- a packet known by an equation
  pub sends_same : {x y : Pkt} → x ≡ y → {p p' : Peer H} {r : Result (Unit {0}) LineFault} → Does log world (send x) p r p' → Does log world (send y) p r p'
  sends_same e {p} {p'} {r} s = subst (λ z. Does log world (send z) p r p') e s

  -- the last packet
  pub sent_last : {f : Wire → Got (Unit {0})} {p₀ p : Peer H} {left : List Pkt} {x : Pkt} → OnTheWay log world (send_all left) p f p₀ → left ≡ x ∷ []
      → {p₁ : Peer H} {r : Result (Unit {0}) LineFault} → Does log world (send x) p r p₁ → Does log world f p₀ r p₁
  sent_last on next {r = Ok u} s = sent_all (sent_more on next s) refl
  sent_last on next {r = Err e} s = sent_stop on next e (Err e) s refl

  -- the first packet, and then the others
  pub sent_then : {left : List Pkt} {x : Pkt} {xs : List Pkt} → left ≡ x ∷ xs → {p p₁ : Peer H} {u : Unit {0}} → Does log world (send x) p (Ok u) p₁
      → {r : Result (Unit {0}) LineFault} {p₂ : Peer H} → Does log world (send_all xs) p₁ r p₂ → Does log world (send_all left) p r p₂
  sent_then next s t = arrived (sent_more (begun refl) next s) t
