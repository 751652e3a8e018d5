-- Laws of what is taken from a process.
use Rattle.std.proofs.Common.{◌≡◌, ℕ, ◌+◌, ◌<◌, ◌≤◌, [], length, get_or, drop, sym, refl, ap, ◌∙◌, ⊎_elim, arith}
use Rattle.std.proofs.lemmas.List.{set-get_or, set-set, set_past, get_or_past, get_or-set_same, drop_all, drop-drop}
use Rattle.std.proofs.lemmas.Bool.{cases_lt}
use Rattle.host.specs.Worlds.{Process, gone, live, World, process, with_process, waiting_of, waiting_now, waits, less, taken, stop, stop_of}

-- a change of process p that leaves what is gone as it is
pub process_with : (w : World) (p : ℕ) (f : Process → Process) → f gone ≡ gone → process (with_process w p (f (process w p))) p ≡ f (process w p)
process_with w p f e =
    ⊎_elim
    (λ (h : p < length w.procs). get_or-set_same w.procs p (f (process w p)) gone h)
    (λ (h : length w.procs ≤ p).
    ap (λ ps. get_or ps p gone) (set_past w.procs p (f (process w p)) h)
    ∙ get_or_past w.procs p gone h ∙ sym e ∙ ap f (sym (get_or_past w.procs p gone h)))
    (cases_lt p (length w.procs))

pub with_same : (w : World) (p : ℕ) → with_process w p (process w p) ≡ w
with_same w p = ap (λ ps. record { procs = ps; startable = w.startable }) (set-get_or w.procs p gone)

pub with_with : (w : World) (p : ℕ) (x y : Process) → with_process (with_process w p x) p y ≡ with_process w p y
with_with w p x y = ap (λ ps. record { procs = ps; startable = w.startable }) (set-set w.procs p x y)

less_none : (q : Process) → less 0 q ≡ q
less_none gone = refl
less_none (live q) = refl

less_less : (a b : ℕ) (q : Process) → less b (less a q) ≡ less (a + b) q
less_less a b gone = refl
less_less a b (live q) = ap (λ ws. waiting_now ws (live q)) (drop-drop b a q.waiting)

waits_less : (a : ℕ) (q : Process) → waiting_of (less a q) ≡ drop a (waiting_of q)
waits_less a gone = sym (drop_all a [] (omega arith))
waits_less a (live q) = refl

stop_less : (a : ℕ) (q : Process) → stop_of (less a q) ≡ stop_of q
stop_less a gone = refl
stop_less a (live q) = refl

pub process_taken : (w : World) (p a : ℕ) → process (taken w p a) p ≡ less a (process w p)
process_taken w p a = process_with w p (less a) refl

pub taken_none : (w : World) (p : ℕ) → taken w p 0 ≡ w
taken_none w p = ap (with_process w p) (less_none (process w p)) ∙ with_same w p

pub taken_taken : (w : World) (p a b : ℕ) → taken (taken w p a) p b ≡ taken w p (a + b)
taken_taken w p a b =
    ap (λ q. with_process (taken w p a) p (less b q)) (process_taken w p a)
    ∙ with_with w p (less a (process w p)) (less b (less a (process w p)))
    ∙ ap (with_process w p) (less_less a b (process w p))

pub waits_taken : (w : World) (p a : ℕ) → waits (taken w p a) p ≡ drop a (waits w p)
waits_taken w p a = ap waiting_of (process_taken w p a) ∙ waits_less a (process w p)

pub stop_taken : (w : World) (p a : ℕ) → stop (taken w p a) p ≡ stop w p
stop_taken w p a = ap stop_of (process_taken w p a) ∙ stop_less a (process w p)

-- more than what waits is taken: all
less_all : (q : Process) (a b : ℕ) → length (waiting_of q) ≤ a → length (waiting_of q) ≤ b → less a q ≡ less b q
less_all q a b h k = ap (λ ws. waiting_now ws q) (drop_all a (waiting_of q) h ∙ sym (drop_all b (waiting_of q) k))

pub taken_all : (w : World) (p a b : ℕ) → length (waits w p) ≤ a → length (waits w p) ≤ b → taken w p a ≡ taken w p b
taken_all w p a b h k = ap (with_process w p) (less_all (process w p) a b h k)
