-- One read of a result.
use Rattle.std.proofs.Common.{◌≡◌, ℕ, ◌≤◌, List, [], ◌∷◌, ◌++◌, take, Some, None, Ok, Err, Option, Result, sym, ap, ◌∙◌, subst, arith}
use Rattle.std.proofs.lemmas.List.{append-nil}
use Rattle.slices.specs.Answers.{told}
use Rattle.packetline.specs.Packets.{Pkt, flush, line, Decoded, packets, flushes_of}
use Rattle.host.specs.declared.peer.Peer.{Peer}
use Rattle.host.specs.Worlds.{World}
use Rattle.host.specs.Acts.{Log}
use Rattle.host.specs.Peers.{seen}
use Rattle.process.specs.declared.area.StatusArea.{StatusArea}
use Rattle.process.specs.Peers.{DoesWith}
use Rattle.process.proofs.Peering.{back_with}
use Rattle.host.specs.declared.fault.LineFault.{LineFault}
use Rattle.host.specs.Talk.{bytes_sent, bytes_given, Areas, areas, Wire, read_content, shown_part, Sight, sight, Talks, Works}
use Rattle.host.proofs.Talking.{talk_none, talk_then, talk_stop, talk_is}
use Rattle.client.specs.declared.result.Output.{Output}
use Rattle.client.specs.declared.result.Output.TheVariants.{Payload, Final}
use Rattle.process.specs.declared.status.Status.{Status}
use Rattle.process.specs.Given.{TalksBy}
use Rattle.process.specs.Statuses.{read_status, StatusLines, StatusLaw}
use Rattle.client.specs.Results.{Piece, payload, final, piece_of, as_final, final_then, read_piece, PieceLaw}
use Rattle.process.proofs.Passes.{Passes, passes_then, passes_got, Content, only_content_passes, Told, told_by_talk}
use Rattle.process.proofs.Tellings.{reads_same, status_passes, one_flush, status_same}

-- a payload or a final status was read
abbrev pub PiecePassed : List Pkt → List Pkt → Piece → Type 0
PiecePassed gs ss (payload l) = (gs ≡ line l ∷ []) × (ss ≡ [])
PiecePassed gs ss (final s) = (ps : List Pkt) × (gs ≡ flush ∷ ps) × StatusLines ps s × (ss ≡ [])

-- neither was, and at most one flush was given
abbrev pub NoPiece : List Pkt → List Pkt → Type 0
NoPiece gs ss = (ss ≡ []) × ((l : List ℕ) → gs ≡ line l ∷ [] → ⊥) × ((ps : List Pkt) (s : Status) → gs ≡ flush ∷ ps → StatusLines ps s → ⊥) × (flushes_of gs ≤ 1)

flush_first : (gs ps : List Pkt) → flushes_of gs ≡ 0 → gs ≡ flush ∷ ps → ⊥
flush_first gs ps none e = let n = ap flushes_of e in omega arith

final_passes : (o : Option (List ℕ)) (gs ss : List Pkt) (u : Wire) → Content gs ss o
    → Passes (λ hs ts x. PiecePassed (gs ++ hs) (ss ++ ts) x) (λ hs ts. NoPiece (gs ++ hs) (ss ++ ts)) u (final_then o u)
final_passes (Some l) gs ss u h = passes_got (payload l) u (append-nil gs ∙ h.0, append-nil ss ∙ h.1)
final_passes None gs ss u h =
    passes_then as_final u (read_status u) (status_passes u)
    (λ hs ts s x k.
    passes_got (final s) x
    (hs ++ [], ap (λ xs. xs ++ (hs ++ [])) h.0, subst (λ ps. StatusLines ps s) (sym (append-nil hs)) k.1, ap (λ xs. xs ++ (ts ++ [])) h.1 ∙ append-nil ts ∙ k.0))
    (λ hs ts k.
    let here : gs ++ hs ≡ flush ∷ hs = ap (λ xs. xs ++ hs) h.0 in (
      ap (λ xs. xs ++ ts) h.1 ∙ k.0,
      λ l e. let z : ◌≡◌ {A = ℕ} 0 1 = cc in omega arith,
      λ ps s e m. let same : hs ≡ ps = cc in let one = ap flushes_of same ∙ one_flush ps s m in let none = k.1 in omega arith,
      (let one = ap flushes_of here in let none = k.1 in omega arith),
    ))

pub piece_passes : (v : Wire) → Passes PiecePassed NoPiece v (read_piece v)
piece_passes v =
    passes_then final_then v (read_content v) (only_content_passes v) (λ gs ss o u h. final_passes o gs ss u h)
    (λ gs ss h. (h.1, h.2, λ ps s e m. flush_first gs ps h.0 e, omega (arith, h.0)))

law_by : (sent given : List ℕ) (r : Result Piece LineFault) → Told PiecePassed NoPiece sent given r → PieceLaw sent given r
law_by sent given (Ok (payload l)) (gs, (ss, reads, said, h)) =
    record {
      silent = said ∙ ap packets h.1;
      payloads = λ x e. let same : gs ≡ line x ∷ [] = cc in reads ∙ ap (λ ps. record { packets = ps; left = [] }) same;
      all_payloads = λ x e. let same = reads_same given gs (line x ∷ []) reads e in cc;
      finals = λ s e. let z : ◌≡◌ {A = ℕ} 0 1 = cc in absurd (omega arith);
      all_finals = λ ps s e k. let same = reads_same given gs (flush ∷ ps) reads e in let z : ◌≡◌ {A = ℕ} 0 1 = cc in absurd (omega arith);
    }
law_by sent given (Ok (final t)) (gs, (ss, reads, said, h)) =
    let ps = h.0 in
    let are = h.1 in
    record {
      silent = said ∙ ap packets h.3;
      payloads = λ x e. let z : ◌≡◌ {A = ℕ} 0 1 = cc in absurd (omega arith);
      all_payloads = λ x e. let same = reads_same given gs (line x ∷ []) reads e in let z : ◌≡◌ {A = ℕ} 0 1 = cc in absurd (omega arith);
      finals = λ s e. let same : t ≡ s = cc in (ps, reads ∙ ap (λ qs. record { packets = qs; left = [] }) are, subst (StatusLines ps) same h.2);
      all_finals = λ qs s e k.
          let same = reads_same given gs (flush ∷ qs) reads e in
          let rest : qs ≡ ps = cc in
          ap (λ x. Ok (final x)) (status_same ps t s h.2 (subst (λ xs. StatusLines xs s) rest k));
    }
law_by sent given (Err f) (gs, (ss, reads, said, h)) =
    record {
      silent = said ∙ ap packets h.0;
      payloads = λ x e. let z : ◌≡◌ {A = ℕ} 0 1 = cc in absurd (omega arith);
      all_payloads = λ x e. absurd (h.1 x (sym reads ∙ ap (λ (y : Decoded). y.packets) e));
      finals = λ s e. let z : ◌≡◌ {A = ℕ} 0 1 = cc in absurd (omega arith);
      all_finals = λ ps s e k. absurd (h.2 ps s (sym reads ∙ ap (λ (y : Decoded). y.packets) e) k);
    }

-- one read has its law
piece_talk : {w : Sight} {p : ℕ} {a : Areas} {r : Result Piece LineFault} {w' : Sight} {a' : Areas} → Talks read_piece w p a r w' a' → TalksBy PieceLaw read_piece w p a r w' a'
piece_talk {r = r} t = (t, law_by (bytes_sent t.events) (bytes_given t.events) r (told_by_talk PiecePassed NoPiece read_piece piece_passes t))

-- The read, call by call

abbrev Goes : Sight → ℕ → Areas → Result Output LineFault → Sight → List ℕ → List ℕ → Type 0
Goes w p a r w' work' status' = TalksBy PieceLaw read_piece w p a (told (piece_of work') (λ f. f) r) w' (areas work' status')

module _ (w : Sight) (p : ℕ) (work status : List ℕ) (w₁ : Sight) (work₁ : List ℕ) where
  pub piece_fault : (r : Result Output LineFault) (e : LineFault) → Works read_content w p work (Err e) w₁ work₁ → r ≡ Err e → Goes w p (areas work status) r w₁ work₁ status
  piece_fault r e s is = piece_talk (talk_is (ap (λ x. told (piece_of work₁) (λ f. f) x) is) (talk_stop final_then e (s status)))

  module _ (o : Option ℕ) (s : Works read_content w p work (shown_part work₁ (Ok o)) w₁ work₁) where
    pub piece_payload : (n : ℕ) → o ≡ Some n → Goes w p (areas work status) (Ok (Payload n)) w₁ work₁ status
    piece_payload n e =
        piece_talk (talk_then final_then (Some (take n work₁)) (talk_is (ap (λ x. shown_part work₁ (Ok x)) (sym e)) (s status)) (talk_none (Ok (payload (take n work₁))) w₁ p (areas work₁ status)))

    module _ (e : o ≡ None) (w₂ : Sight) (work₂ status₂ : List ℕ) where
      at_flush : Talks read_content w p (areas work status) (Ok None) w₁ (areas work₁ status)
      at_flush = talk_is (ap (λ x. shown_part work₁ (Ok x)) (sym e)) (s status)

      pub piece_untold : (r : Result Output LineFault) (f : LineFault) → TalksBy StatusLaw read_status w₁ p (areas work₁ status) (Err f) w₂ (areas work₂ status₂) → r ≡ Err f
          → Goes w p (areas work status) r w₂ work₂ status₂
      piece_untold r f t is = piece_talk (talk_is (ap (λ x. told (piece_of work₂) (λ y. y) x) is) (talk_then final_then None at_flush (talk_stop as_final f t.0)))

      pub piece_final : (st : Status) → TalksBy StatusLaw read_status w₁ p (areas work₁ status) (Ok st) w₂ (areas work₂ status₂) → Goes w p (areas work status) (Ok (Final st)) w₂ work₂ status₂
      piece_final st t = piece_talk (talk_then final_then None at_flush (talk_then as_final st t.0 (talk_none (Ok (final st)) w₂ p (areas work₂ status₂))))

-- what a caller knows of the host and the areas that he lent, once the peer is gone
pub back_piece : {H : Type 0} (log : H → Log) (world : H → World) {p p' : Peer H} {s s' : StatusArea} (host : H) (work status : List ℕ) (r : Result Output LineFault)
    → DoesWith log world PieceLaw read_piece p s (told (piece_of p'.work.now) (λ f. f) r) p' s' → host ≡ p'.host.now → work ≡ p'.work.now → status ≡ s'.bytes.now
    → TalksBy PieceLaw read_piece (seen log world p) p.process (areas p.work.now s.bytes.now) (told (piece_of work) (λ f. f) r) (sight (log host) (world host)) (areas work status)
back_piece log world {p} {p'} {s} {s'} host work status r d h w e =
    subst (λ x. TalksBy PieceLaw read_piece (seen log world p) p.process (areas p.work.now s.bytes.now) (told (piece_of x) (λ f. f) r) (sight (log host) (world host)) (areas work status)) (sym w)
    (back_with log world host work status d h w e)
