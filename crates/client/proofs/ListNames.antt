-- The paths named in what was given, packet by packet.
use Rattle.std.proofs.Common.{◌≡◌, ℕ, List, [], ◌∷◌, ◌++◌, sym, refl, ap, ◌∙◌, arith}
use Rattle.std.proofs.lemmas.List.{append_assoc}
use Rattle.packetline.specs.Packets.{Pkt, flush, delimiter, response_end, line, Decoded, decode, flushes_of}
use Rattle.packetline.specs.Lines.{kind_of}
use Rattle.process.specs.Given.{ReadsAs}
use Rattle.client.specs.Paths.{path_in, listed, paths_named}
use Rattle.client.specs.Listings.{named_in}
use Rattle.process.proofs.Passes.{decode_append}

-- one packet more
pub named_push : (hs : List Pkt) (p : Pkt) → flushes_of hs ≡ 0 → paths_named (hs ++ p ∷ []) ≡ paths_named hs ++ paths_named (p ∷ [])
named_push [] p h = refl
named_push (flush ∷ hs) p h = absurd (omega arith)
named_push (delimiter ∷ hs) p h = named_push hs p (omega arith)
named_push (response_end ∷ hs) p h = named_push hs p (omega arith)
named_push (line l ∷ hs) p h =
    let here = listed (path_in (kind_of l)) in
    ap (λ xs. here ++ xs) (named_push hs p (omega arith)) ∙ sym (append_assoc here (paths_named hs) (paths_named (p ∷ [])))

-- what follows a flush names nothing
pub named_flush : (hs ps : List Pkt) → flushes_of hs ≡ 0 → paths_named (hs ++ flush ∷ ps) ≡ paths_named hs
named_flush [] ps h = refl
named_flush (flush ∷ hs) ps h = absurd (omega arith)
named_flush (delimiter ∷ hs) ps h = named_flush hs ps (omega arith)
named_flush (response_end ∷ hs) ps h = named_flush hs ps (omega arith)
named_flush (line l ∷ hs) ps h = ap (λ xs. listed (path_in (kind_of l)) ++ xs) (named_flush hs ps (omega arith))

packets_append : (xs ys : List ℕ) (ps : List Pkt) → ReadsAs xs ps → (decode (xs ++ ys)).packets ≡ ps ++ (decode ys).packets
packets_append xs ys ps e = ap (λ (d : Decoded). d.packets) (decode_append xs ys ps e)

-- bytes behind packets of which the last is a flush
pub named_ended : (xs ys : List ℕ) (hs : List Pkt) → flushes_of hs ≡ 0 → ReadsAs xs (hs ++ flush ∷ []) → named_in (xs ++ ys) ≡ paths_named hs
named_ended xs ys hs h e =
    ap paths_named (packets_append xs ys (hs ++ flush ∷ []) e ∙ append_assoc hs (flush ∷ []) (decode ys).packets) ∙ named_flush hs (decode ys).packets h

-- bytes behind none
pub named_after : (xs ys : List ℕ) → ReadsAs xs [] → named_in (xs ++ ys) ≡ named_in ys
named_after xs ys e = ap paths_named (packets_append xs ys [] e)
