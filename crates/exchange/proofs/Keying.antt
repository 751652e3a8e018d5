-- The key to calls, one by one.
use Rattle.std.proofs.Common.{◌≡◌, ℕ, ◌+◌, ◌<◌, ◌≤◌, List, [], ◌∷◌, ◌++◌, length, map, take, get_or, Option, leb, sym, refl, ap, ◌∙◌, subst}
use Rattle.std.proofs.lemmas.Bool.{cond-true, le-leb}
use Rattle.std.proofs.lemmas.List.{map-append, take_all, take_more}
use Rattle.packetline.specs.Packets.{Pkt, flushes_of}
use Rattle.host.specs.declared.fault.Fault.{Fault}
use Rattle.rules.specs.Calls.{Call}
use Rattle.rules.specs.Stories.{behind_flushes}
use Rattle.rules.specs.Lives.{run}
use Rattle.rules.specs.Key.{Seen, Afterwards, dies, after_call, after_meeting, Runner, key_step, key, Keyed}
use Rattle.rules.proofs.Keying.{key_stands}
use Rattle.exchange.specs.declared.key.Watched.{Watched}
use Rattle.exchange.specs.Watching.{watched_call, TellsWhoRuns}
use Rattle.exchange.proofs.Reading.{behind_two}

-- a handshake that went well gave two flushes, and a call's talk stands behind them
pub by_meeting : (c : Call) (ps : List Pkt) (f : Option Fault) (a : Afterwards) → 2 ≤ flushes_of ps → a ≡ after_call c (behind_flushes 1 (behind_flushes 1 ps)) f → a ≡ after_meeting c ps f
by_meeting c ps f a h e =
    e ∙ ap (λ qs. after_call c qs f) (sym (behind_two ps)) ∙ sym (cond-true (leb 2 (flushes_of ps)) (after_call c (behind_flushes 2 ps) f) dies (le-leb 2 (flushes_of ps) h))

key_push : (xs : List (Call × Seen)) (x : Call × Seen) (rs : List Runner) → key (xs ++ x ∷ []) rs ≡ key_step x.0 x.1 (key xs rs)
key_push [] x rs = refl
key_push (y ∷ xs) x rs = key_push xs x (key_step y.0 y.1 rs)

-- one call more
pub key_more : (rows room : ℕ) (ws : List Watched) (i : ℕ) (w : Watched) (rs rs' : List Runner) → i < length ws → w ≡ get_or ws i w → rs ≡ key (map (watched_call rows room) (take i ws)) []
    → rs' ≡ key_step (watched_call rows room w).0 (watched_call rows room w).1 rs → rs' ≡ key (map (watched_call rows room) (take (i + 1) ws)) []
key_more rows room ws i w rs rs' l at e k =
    let all : map (watched_call rows room) (take (i + 1) ws) ≡ map (watched_call rows room) (take i ws) ++ watched_call rows room w ∷ [] =
    ap (map (watched_call rows room)) (take_more ws i w l) ∙ map-append (watched_call rows room) (take i ws) (get_or ws i w ∷ [])
    ∙ ap (λ v. map (watched_call rows room) (take i ws) ++ watched_call rows room v ∷ []) (sym at) in
    k ∙ ap (key_step (watched_call rows room w).0 (watched_call rows room w).1) e ∙ sym (key_push (map (watched_call rows room) (take i ws)) (watched_call rows room w) [])
    ∙ ap (λ xs. key xs []) (sym all)

-- what the key tells of all calls runs
pub key_tells : (ws : List Watched) (i : ℕ) (rs : List Runner) → length ws ≤ i → ((rows room : ℕ) → rs ≡ key (map (watched_call rows room) (take i ws)) []) → TellsWhoRuns ws rs
key_tells ws i rs h k capacity rows room l b turns seen =
    subst (Keyed (length l.now.table) (run capacity turns l))
    (ap (λ xs. key xs []) (seen ∙ ap (map (watched_call rows room)) (sym (take_all i ws h))) ∙ sym (k rows room)) (key_stands capacity l b turns)
