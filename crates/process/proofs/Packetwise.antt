-- What was given, packet by packet.
use Rattle.std.proofs.Common.{◌≡◌, ℕ, List, [], ◌∷◌, ◌++◌, Ok, Err, sym, ap, ◌∙◌}
use Rattle.std.proofs.lemmas.List.{append_assoc, append-nil}
use Rattle.packetline.specs.Packets.{Pkt, Decoded, decode}
use Rattle.host.specs.declared.fault.LineFault.{LineFault}
use Rattle.host.specs.Talk.{Event, took, refused, gave, noted, bytes_sent, bytes_given, Areas, read, Sight, Talks}
use Rattle.process.specs.Given.{ReadsAs}
use Rattle.process.proofs.Passes.{OneRead, NoneRead, whole_passes, decode_append, Told, told_by_talk}

-- events stand the latest first
pub given_append : (xs ys : List Event) → bytes_given (xs ++ ys) ≡ bytes_given ys ++ bytes_given xs
given_append [] ys = sym (append-nil (bytes_given ys))
given_append (took b ∷ xs) ys = given_append xs ys
given_append (refused b ∷ xs) ys = given_append xs ys
given_append (gave b ∷ xs) ys = ap (λ l. l ++ b) (given_append xs ys) ∙ append_assoc (bytes_given ys) (bytes_given xs) b
given_append (noted s ∷ xs) ys = given_append xs ys

pub sent_append : (xs ys : List Event) → bytes_sent (xs ++ ys) ≡ bytes_sent ys ++ bytes_sent xs
sent_append [] ys = sym (append-nil (bytes_sent ys))
sent_append (took b ∷ xs) ys = ap (λ l. l ++ b) (sent_append xs ys) ∙ append_assoc (bytes_sent ys) (bytes_sent xs) b
sent_append (refused b ∷ xs) ys = sent_append xs ys
sent_append (gave b ∷ xs) ys = sent_append xs ys
sent_append (noted s ∷ xs) ys = sent_append xs ys

-- A packet is read

module _ (es fs : List Event) (hs : List Pkt) (so_far : ReadsAs (bytes_given es) hs) where
  behind : decode (bytes_given (fs ++ es)) ≡ record { packets = hs ++ (decode (bytes_given fs)).packets; left = (decode (bytes_given fs)).left }
  behind = ap decode (given_append fs es) ∙ decode_append (bytes_given es) (bytes_given fs) hs so_far

  one_more : (sent : List ℕ) (x : Pkt) → Told OneRead NoneRead sent (bytes_given fs) (Ok x) → ReadsAs (bytes_given (fs ++ es)) (hs ++ x ∷ [])
  one_more sent x (gs, (ss, reads, said, h)) =
      behind ∙ ap (λ (d : Decoded). record { packets = hs ++ d.packets; left = d.left }) reads ∙ ap (λ (ps : List Pkt). record { packets = hs ++ ps; left = [] }) h.0

  no_more : (sent : List ℕ) (e : LineFault) → Told OneRead NoneRead sent (bytes_given fs) (Err e) → (decode (bytes_given (fs ++ es))).packets ≡ hs
  no_more sent e (gs, (ss, reads, said, h)) = ap (λ (d : Decoded). d.packets) behind ∙ ap (λ ps. hs ++ ps) (reads ∙ h.0) ∙ append-nil hs

module _ {w : Sight} {p : ℕ} {a : Areas} {w₁ : Sight} {a₁ : Areas} (es : List Event) (hs : List Pkt) (so_far : ReadsAs (bytes_given es) hs) where
  pub reads_more : (x : Pkt) (t : Talks read w p a (Ok x) w₁ a₁) → ReadsAs (bytes_given (t.events ++ es)) (hs ++ x ∷ [])
  reads_more x t = one_more es t.events hs so_far (bytes_sent t.events) x (told_by_talk OneRead NoneRead read whole_passes t)

  -- a fault brings less than a packet
  pub reads_none : (e : LineFault) (t : Talks read w p a (Err e) w₁ a₁) → (decode (bytes_given (t.events ++ es))).packets ≡ hs
  reads_none e t = no_more es t.events hs so_far (bytes_sent t.events) e (told_by_talk OneRead NoneRead read whole_passes t)
