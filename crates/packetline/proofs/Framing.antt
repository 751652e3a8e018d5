-- A packet that was laid down.
use Rattle.std.proofs.Common.{◌≡◌, ℕ, ◌≤◌, true, leb, List, ◌++◌, length, take, drop, Ok, Result, sym, ap, ◌∙◌}
use Rattle.std.proofs.lemmas.List.{take_at}
use Rattle.std.proofs.lemmas.Bool.{le-leb, cond-true}
use Rattle.packetline.specs.Packets.{Pkt, sendable, packet, whole, front, over}
use Rattle.packetline.specs.Frames.{Framed}
use Rattle.packetline.proofs.Exact.{sent_back}

pub framed : (p : Pkt) (area area' : List ℕ) (n : ℕ) → sendable p ≡ true → length (packet p) ≤ length area → n ≡ length (packet p)
    → area' ≡ over (packet p) area → Framed p area (Ok n) area'
framed p area area' n s h e l =
    record {
      answer = ap Ok e ∙ sym (cond-true (leb (length (packet p)) (length area)) _ _ (le-leb _ _ h) ∙ cond-true (sendable p) _ _ s);
      laid = l;
      back = λ m q rest.
          let is : m ≡ length (packet p) = sym (ok_same n m q) ∙ e in
          let lies : take m area' ≡ packet p = ap (take m) l ∙ take_at (packet p) (drop (length (packet p)) area) m (sym is) in
          ap (λ xs. front (xs ++ rest)) lies ∙ sent_back p s rest ∙ ap (λ xs. whole p xs rest) (sym lies);
    }
  where
    ok_same : (x y : ℕ) → ◌≡◌ {A = Result ℕ ℕ} (Ok x) (Ok y) → x ≡ y
    ok_same x y q = cc
