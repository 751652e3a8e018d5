-- What an implementation of a host shows, by the process that its call is about.
use Rattle.std.proofs.Common.{◌≡◌, ℕ, ◌+◌, ◌-◌, ◌<◌, ◌≤◌, leb, List, [], ◌++◌, length, take, drop, set, Ok, Err, sym, refl, ap, ◌∙◌, arith}
use borrow.Rule.Slice.PartMut.{post_of}
use Rattle.std.proofs.lemmas.List.{length-take-le, set-get_or, drop-drop, drop-take}
use Rattle.std.proofs.lemmas.Bool.{le-leb, lt-leb, cond-true, cond-false}
use Rattle.packetline.specs.Packets.{over}
use Rattle.host.specs.declared.fault.Fault.{Fault}
use Rattle.host.specs.declared.fault.Fault.TheVariants.{Broken}
use Rattle.host.specs.Faults.{snag_fault}
use Rattle.host.specs.Worlds.{Reply, Pipe, Process, gone, live, World, process, with_process, waiting_of, less}
use Rattle.host.specs.Acts.{Received, Sent, refusal_of, pipe_after, sent_to, sent}

module _ (w : World) (p : ℕ) where
  -- the world with a process as it was
  same : (q : Process) → q ≡ process w p → with_process w p q ≡ w
  same q e = ap (λ ps. record { procs = ps; startable = w.startable }) (ap (set w.procs p) e ∙ set-get_or w.procs p gone)

  module _ (q : Pipe) (e : process w p ≡ live q) where
    -- an open process where n bytes are taken
    pub received_some : (area area' : List ℕ) (n : ℕ) (w' : World) → 0 < n → n ≤ length area → n ≤ length q.waiting
        → w' ≡ with_process w p (less n (live q)) → area' ≡ take n q.waiting ++ drop n area → Received w p area (Ok n) w' area'
    received_some area area' n w' h k l f a =
        let t = ap (λ x. length (waiting_of x)) e in (
          k,
          omega (arith, t, l),
          (λ _. h),
          f ∙ ap (λ x. with_process w p (less n x)) (sym e),
          a ∙ ap (λ m. take n q.waiting ++ drop m area) (sym (length-take-le n q.waiting l)) ∙ ap (λ x. over (take n (waiting_of x)) area) (sym e),
        )

  module _ (bytes : List ℕ) where
    -- a send that changes nothing
    stays : (q : Process) → process w p ≡ q → sent_to q bytes (λ _ _. []) ≡ q → w ≡ sent w p bytes (λ _ _. [])
    stays q e s = sym (same _ (ap (λ x. sent_to x bytes (λ _ _. [])) e ∙ s ∙ sym e))

    pub sent_gone : process w p ≡ gone → Sent w p bytes (Err Broken) w
    sent_gone e = record { answer = sym (ap (λ x. refusal_of x (length bytes)) e); later = λ _ _. []; after = stays gone e refl }

    module _ (q : Pipe) (e : process w p ≡ live q) where
      -- more bytes than the allowance
      pub sent_snag : (f : Fault) → f ≡ snag_fault q.snag → q.allowance < length bytes → Sent w p bytes (Err f) w
      sent_snag f is h =
          let no = lt-leb (length bytes) q.allowance h in
          record {
            answer = ap Err is ∙ sym (ap (λ x. refusal_of x (length bytes)) e ∙ cond-false (leb (length bytes) q.allowance) _ _ no);
            later = λ _ _. [];
            after = stays (live q) e (cond-false (leb (length bytes) q.allowance) _ _ no);
          }

      -- bytes within the allowance
      pub sent_whole : (later : Reply) (w' : World) → length bytes ≤ q.allowance
          → w' ≡ with_process w p (live (pipe_after q bytes later))
          → Sent w p bytes (Ok tt) w'
      sent_whole later w' h f =
          let yes = le-leb (length bytes) q.allowance h in
          record {
            answer = sym (ap (λ x. refusal_of x (length bytes)) e ∙ cond-true (leb (length bytes) q.allowance) _ _ yes);
            later = later;
            after = f ∙ ap (with_process w p) (sym (ap (λ x. sent_to x bytes later) e ∙ cond-true (leb (length bytes) q.allowance) _ _ yes));
          }

-- Bytes that are taken

-- a part of a byte string without its first n bytes
pub part_rest : (bytes : List ℕ) (at len n : ℕ) → n ≤ len → take (len - n) (drop (at + n) bytes) ≡ drop n (take len (drop at bytes))
part_rest bytes at len n h =
    ap (take (len - n)) (sym (drop-drop n at bytes)) ∙ sym (drop-take n (len - n) (drop at bytes)) ∙ ap (λ m. drop n (take m (drop at bytes))) (omega arith)

-- the front of an area after a copy of the first n bytes
pub copied : (waiting area copy : List ℕ) (n : ℕ) → copy ≡ take (n - 0) waiting → copy ++ post_of 0 (n - 0) area ≡ take n waiting ++ drop n area
copied waiting area copy n e =
    let z : n - 0 ≡ n = omega arith in
    ap (λ l. l ++ drop (n - 0) area) e ∙ ap (λ m. take m waiting ++ drop m area) z
