-- What a reader tells of the bytes that wait, from what its talk means.
use Rattle.std.proofs.Common.{◌≡◌, ℕ, true, List, [], ◌++◌, Ok, Err, Result, sym, refl, ap, ◌∙◌, arith}
use Rattle.packetline.specs.Packets.{Pkt, sendable, packet, lowered, Front, whole, bad, short, front}
use Rattle.packetline.proofs.Fronts.{front_none}
use Rattle.packetline.proofs.Exact.{reads_sent, sent_back}
use Rattle.host.specs.declared.fault.Fault.{Fault}
use Rattle.host.specs.declared.fault.LineFault.{LineFault}
use Rattle.host.specs.declared.fault.LineFault.TheVariants.{Host}
use Rattle.host.specs.Worlds.{Process, gone, live, process, waiting_of, waiting_now, waits}
use Rattle.host.specs.Talk.{Areas, Wire, wire, Got, got, lost, ends, hear, read, Sight, Talks}
use Rattle.host.specs.Calls.{Streamed}

-- the answer and the process of a talk
abbrev pub answer_of : {A : Type 0} → Got A → Result A LineFault
answer_of (got a v) = Ok a
answer_of (lost f v) = Err f

abbrev pub end_of : {A : Type 0} → Got A → Process
end_of (got a v) = v.end
end_of (lost f v) = v.end

pub ends_answer : {A : Type 0} (r : Result A LineFault) (v : Wire) → answer_of (ends r v) ≡ r
ends_answer (Ok a) v = refl
ends_answer (Err f) v = refl

pub ends_end : {A : Type 0} (r : Result A LineFault) (v : Wire) → end_of (ends r v) ≡ v.end
ends_end (Ok a) v = refl
ends_end (Err f) v = refl

err_ok : (f : LineFault) (p : Pkt) → ◌≡◌ {A = Result Pkt LineFault} (Err f) (Ok p) → ⊥
err_ok f p e = let z : ◌≡◌ {A = ℕ} 0 1 = cc in omega arith

-- a process at which a packet waits is open, so other bytes can wait there
waits_rest : (q : Process) (p : Pkt) (bytes rest : List ℕ) → front (waiting_of q) ≡ whole p bytes rest → waiting_of (waiting_now rest q) ≡ rest
waits_rest gone p bytes rest e = let n = front_none [] (omega arith) in let z : ◌≡◌ {A = ℕ} 0 1 = cc in absurd (omega arith)
waits_rest (live q) p bytes rest e = refl

waits_none : (q : Process) → waiting_of (waiting_now [] q) ≡ []
waits_none gone = refl
waits_none (live q) = refl

module _ (q : Process) (v : Wire) (here : v.end ≡ q) (r : Result Pkt LineFault) (q' : Process) (answer : answer_of (hear (front (waiting_of q)) v) ≡ r) (after : end_of (hear (front (waiting_of q)) v) ≡ q') where
  abbrev ws : List ℕ
  ws = waiting_of q

  -- where a whole packet stands
  whole_read : (p : Pkt) (bytes rest : List ℕ) → front ws ≡ whole p bytes rest → (r ≡ Ok p) × (waiting_of q' ≡ rest)
  whole_read p bytes rest e = (
    sym answer ∙ ap (λ f. answer_of (hear f v)) e,
    ap waiting_of (sym after ∙ ap (λ f. end_of (hear f v)) e ∙ ap (waiting_now rest) here) ∙ waits_rest q p bytes rest e,
  )

  only_read : (p : Pkt) (f : Front) → front ws ≡ f → r ≡ Ok p → (sendable p ≡ true) × ((bytes : List ℕ) × (lowered bytes ≡ packet p) × (ws ≡ bytes ++ waiting_of q'))
  only_read p (whole x bytes rest) e is =
      let h = whole_read x bytes rest e in
      let same : x ≡ p = ok_same x p (sym h.0 ∙ is) in
      let o = (reads_sent ws).only x bytes rest e in
      (ap sendable (sym same) ∙ o.0, (bytes, o.1 ∙ ap packet same, o.2 ∙ ap (λ xs. bytes ++ xs) (sym h.1)))
    where
      ok_same : (x y : Pkt) → ◌≡◌ {A = Result Pkt LineFault} (Ok x) (Ok y) → x ≡ y
      ok_same x y q = cc
  only_read p (bad bytes rest) e is = absurd (err_ok _ p (sym (ap (λ f. answer_of (hear f v)) e) ∙ answer ∙ is))
  only_read p short e is = absurd (err_ok _ p (sym (ap (λ f. answer_of (hear f v)) e) ∙ answer ∙ is))

  all_gone : (x : Fault) (f : Front) → front ws ≡ f → r ≡ Err (Host x) → waiting_of q' ≡ []
  all_gone x (whole p bytes rest) e is = absurd (err_ok _ p (sym is ∙ (whole_read p bytes rest e).0))
  all_gone x (bad bytes rest) e is =
      let k : answer_of (hear (bad bytes rest) v) ≡ Err (Host x) = sym (ap (λ f. answer_of (hear f v)) e) ∙ answer ∙ is in
      let z : ◌≡◌ {A = ℕ} 0 1 = cc in
      absurd (omega arith)
  all_gone x short e is = ap waiting_of (sym after ∙ ap (λ f. end_of (hear f v)) e) ∙ waits_none v.end

  streamed_by : Streamed ws r (waiting_of q')
  streamed_by =
      record {
        back = λ p rest s e. whole_read p (packet p) rest (ap front e ∙ sent_back p s rest);
        only = λ p is. only_read p (front ws) refl is;
        stops = λ f is. (all_gone f (front ws) refl is, λ p bytes rest s l e. err_ok _ p (sym is ∙ (whole_read p bytes rest ((reads_sent ws).all p bytes rest s l e)).0));
      }

pub streamed : {w : Sight} {p : ℕ} {a : Areas} {r : Result Pkt LineFault} {w' : Sight} {a' : Areas} → Talks read w p a r w' a' → Streamed (waits w.world p) r (waits w'.world p)
streamed {w = w} {p = p} {r = r} {w' = w'} t =
    let l = t.goes (λ _ _ _. []) in
    let e = l.1 [] in
    streamed_by (process w.world p) (wire (process w.world p) l.0 []) refl r (process w'.world p) (ap answer_of e ∙ ends_answer r _) (ap end_of e ∙ ends_end r _)
