-- The mirror keeps the host's meaning.
use Rattle.std.proofs.Common.{◌≡◌, ℕ, zero, suc, ◌+◌, ◌-◌, ◌<◌, ◌≤◌, ◌^◌, min, Bool, true, false, cond, List, [], ◌∷◌, ◌++◌, map, length, get_or, take, drop, set, Ok, Err, sym, refl, ap, ◌∙◌, subst, arith}
use Rattle.std.proofs.lemmas.List.{get_or-map, get_or-take, get_or-set_same, map-set, map_push, length-map, length-take, length-set, take_more_set}
use Rattle.std.proofs.lemmas.Bool.{lt-ltb, false≢true}
use Rattle.slices.specs.declared.name.Name.{Name}
use Rattle.packetline.specs.Packets.{Pkt, whole, front, packets}
use Rattle.host.specs.declared.fault.Fault.TheVariants.{Closed, Broken}
use Rattle.host.specs.Worlds.{Pipe, Process, gone, live, World, process, with_process, waiting_of, stop_of, less}
use Rattle.host.specs.Acts.{Started, Received, Sent, Ended, some_wait, pipe_after}
use Rattle.host.proofs.Hosts.{received_some, sent_snag, sent_whole}
use Rattle.mirror.specs.declared.seat.Seat.{Seat}
use Rattle.mirror.specs.declared.mirror.Mirror.{Mirror}
use Rattle.mirror.specs.Memory.{waiting_in}
use Rattle.mirror.specs.Stages.{Stage, hailing, Move, taken, hears}
use Rattle.mirror.specs.Plans.{only, at_send, pipe_at}
use Rattle.mirror.specs.Servers.{stage_of}
use Rattle.mirror.specs.Seats.{Fresh, Takes, Sends, AtSeat, TakesAt}
use Rattle.mirror.specs.Worlds.{pipe_of, process_of, mirror_world, world_of, Opened}

take_set_any : {X : Type 0} (n : ℕ) (xs : List X) (i : ℕ) (x : X) → take n (set xs i x) ≡ set (take n xs) i x
take_set_any zero xs i x = refl
take_set_any (suc n) [] i x = refl
take_set_any (suc n) (y ∷ ys) zero x = refl
take_set_any (suc n) (y ∷ ys) (suc i) x = ap (λ l. y ∷ l) (take_set_any n ys i x)

none_wait : (ws : List ℕ) → some_wait ws ≡ false → ws ≡ []
none_wait [] e = refl
none_wait (b ∷ ws) e = absurd (false≢true (sym e))

wait_some : (ws : List ℕ) → some_wait ws ≡ true → 0 < length ws
wait_some [] e = absurd (false≢true e)
wait_some (b ∷ ws) e = omega arith

same_pipe : (q r : Pipe) → ◌≡◌ {A = Process} (live q) (live r) → q ≡ r
same_pipe q r e = cc

not_gone : (q : Pipe) → ◌≡◌ {A = Process} (live q) gone → ⊥
not_gone q e = let z : ◌≡◌ {A = ℕ} 0 1 = cc in omega arith

abbrev after_move : List ℕ → List Name → Stage → ℕ → List ℕ → Move → Process
after_move prefix names x n bytes m = live (pipe_at prefix names m.to (packets m.says) (n - length bytes))

module _ (prefix : List ℕ) (names : List Name) where
  -- an open process, by what its seat holds
  seat_now : (s : Seat) (x : Stage) (ws : List ℕ) (n : ℕ) → s.is_open ≡ true → stage_of s.server ≡ x → waiting_in s.answer ≡ ws → s.allowance ≡ n → process_of prefix names s ≡ live (pipe_at prefix names x ws n)
  seat_now s x ws n o e f g =
      ap (λ b. cond b (live (pipe_of prefix names s)) gone) o
      ∙ ap (λ y. live (pipe_at prefix names y (waiting_in s.answer) s.allowance)) e
      ∙ ap (λ l. live (pipe_at prefix names x l s.allowance)) f
      ∙ ap (λ m. live (pipe_at prefix names x ws m)) g

  module _ (seats : List Seat) (count : ℕ) (long : length seats ≡ 16) (few : count ≤ 16) where
    abbrev w : World
    w = mirror_world prefix names seats count

    procs_length : length w.procs ≡ count
    procs_length = length-map (take count seats) (process_of prefix names) ∙ length-take count seats ∙ omega arith

    at_place : (p : ℕ) → p < count → (d : Seat) → process w p ≡ process_of prefix names (get_or seats p d)
    at_place p h d =
        let l = length-take count seats in
        get_or-map (process_of prefix names) (take count seats) p d gone (omega arith) ∙ ap (process_of prefix names) (get_or-take count seats p d h)

    -- another seat is another process
    pub swapped : (seats' : List Seat) (p : ℕ) (s : Seat) → seats' ≡ set seats p s → mirror_world prefix names seats' count ≡ with_process w p (process_of prefix names s)
    swapped seats' p s e =
        ap (λ ss. mirror_world prefix names ss count) e
        ∙ ap (λ ps. record { procs = ps; startable = λ _. true }) (ap (map (process_of prefix names)) (take_set_any count seats p s) ∙ map-set (process_of prefix names) (take count seats) p s)

    with_there : (p : ℕ) (q : Process) → p < count → process (with_process w p q) p ≡ q
    with_there p q h = let l = procs_length in get_or-set_same w.procs p q gone (omega arith)

    -- Starting
    module _ (command : List ℕ) (room : count < 16) (seats' : List Seat) (at : AtSeat (λ _ s. Fresh s) seats count seats') (d : Seat) where
      abbrev after : World
      after = mirror_world prefix names seats' (count + 1)

      fresh : Fresh at.seat
      fresh = at.done d

      newcomer : process_of prefix names at.seat ≡ live (pipe_at prefix names hailing [] (2 ^ 40))
      newcomer = seat_now at.seat hailing [] (2 ^ 40) fresh.opened fresh.stands fresh.waits fresh.allowance

      pub starts : Started 16 w command (Ok count) after
      starts =
          let l = procs_length in (
            lt-ltb (length w.procs) 16 (omega arith),
            sym l,
            (
              pipe_at prefix names hailing [] (2 ^ 40),
              ap (λ ss. map (process_of prefix names) (take (count + 1) ss)) at.placed
                  ∙ ap (map (process_of prefix names)) (take_more_set seats count at.seat (omega arith))
                  ∙ map_push (process_of prefix names) (take count seats) at.seat
                  ∙ ap (λ x. w.procs ++ x ∷ []) newcomer,
            ),
          )

      pub started_there : process after count ≡ live (pipe_at prefix names hailing [] (2 ^ 40))
      started_there =
          let l = length-take (count + 1) seats' in
          let k : length seats' ≡ 16 = ap length at.placed ∙ length-set seats count at.seat ∙ long in
          get_or-map (process_of prefix names) (take (count + 1) seats') count d gone (omega arith)
          ∙ ap (process_of prefix names) (get_or-take (count + 1) seats' count d (omega arith) ∙ ap (λ ss. get_or ss count d) at.placed ∙ get_or-set_same seats count at.seat d (omega arith))
          ∙ newcomer

    -- At an open process
    module _ (p : ℕ) (inside : p < count) (d : Seat) (opened : (get_or seats p d).is_open ≡ true) where
      abbrev s : Seat
      s = get_or seats p d

      abbrev q : Pipe
      q = pipe_of prefix names s

      here : process w p ≡ live q
      here = at_place p inside d ∙ seat_now s (stage_of s.server) (waiting_in s.answer) s.allowance opened refl refl refl

      -- Receiving
      pub nothing_there : (area : List ℕ) → 0 < length area → some_wait (waiting_in s.answer) ≡ false → Received w p area (Err Closed) w area
      nothing_there area h e = (h, ap waiting_of here ∙ none_wait (waiting_in s.answer) e, sym (ap stop_of here), refl, refl)

      pub receives :
          (area : List ℕ) (n : ℕ) (seats' : List Seat) (area' : List ℕ) → 0 < length area → some_wait (waiting_in s.answer) ≡ true → TakesAt seats p area n seats' area'
          → Received w p area (Ok n) (mirror_world prefix names seats' count) area'
      receives area n seats' area' h e t =
          let some = wait_some (waiting_in s.answer) e in
          let a = t.takes in
          let len : n ≡ min (length (waiting_in s.answer)) (length area) = t.len d in
          let done : Takes s n a.seat = a.done d in
          let now : process_of prefix names a.seat ≡ less n (live q) =
          seat_now a.seat (stage_of s.server) (drop n (waiting_in s.answer)) s.allowance (done.opened ∙ opened) done.stands done.waits done.allowance in
          received_some w p q here area area' n _ (omega arith) (omega arith) (omega arith)
          (swapped seats' p a.seat a.placed ∙ ap (with_process w p) now)
          (t.laid d)

      -- Sending
      pub refuses : (bytes : List ℕ) → s.allowance < length bytes → Sent w p bytes (Err Broken) w
      refuses bytes h = sent_snag w p bytes q here Broken refl h

      module _ (bytes : List ℕ) (within : length bytes ≤ s.allowance) (seats' : List Seat) (at : AtSeat (λ x y. Sends prefix names x bytes y) seats p seats') where
        done : Sends prefix names s bytes at.seat
        done = at.done d

        abbrev later : List ℕ → Bool → List ℕ
        later = λ _ _. []

        becomes : mirror_world prefix names seats' count ≡ with_process w p (live (pipe_after q bytes later))
        becomes =
            let m = at_send prefix names (stage_of s.server) bytes (some_wait (waiting_in s.answer)) in
            swapped seats' p at.seat at.placed
            ∙ ap (with_process w p) (seat_now at.seat m.to (waiting_in s.answer ++ packets m.says) (s.allowance - length bytes) (done.opened ∙ opened) done.stands done.waits done.allowance)

        pub sends : Sent w p bytes (Ok tt) (mirror_world prefix names seats' count)
        sends = sent_whole w p bytes q here later _ within becomes

        pub sends_on :
            (called : List ℕ) (skills : List Name) (x : Stage) (n : ℕ) (k : Pkt) → process w p ≡ live (pipe_at called skills x [] n) → front bytes ≡ whole k bytes []
            → process (mirror_world prefix names seats' count) p ≡ live (pipe_at called skills (hears called skills x k).to (packets (hears called skills x k).says) (n - length bytes))
        sends_on called skills x n k at_x one =
            let same : q ≡ pipe_at called skills x [] n = same_pipe q (pipe_at called skills x [] n) (sym here ∙ at_x) in
            ap (λ v. process v p) becomes ∙ with_there p (live (pipe_after q bytes later)) inside
            ∙ ap (λ r. live (pipe_after r bytes later)) same
            ∙ ap (λ f. after_move called skills x n bytes (taken (only f) (hears called skills x))) one

      -- Ending
      pub ends : (seats' : List Seat) → AtSeat (λ _ x. x.is_open ≡ false) seats p seats' → Ended w p (mirror_world prefix names seats' count)
      ends seats' at =
          record {
            closes = λ r e.
                ap (λ (v : World). v.procs) (swapped seats' p at.seat at.placed) ∙ ap (set w.procs p) (ap (λ b. cond b (live (pipe_of prefix names at.seat)) gone) (at.done d));
            stays = λ e. absurd (not_gone q (sym here ∙ e));
          }

-- what the test of a process tells
pub open_there : (m : Mirror) (p : ℕ) (r : Bool) → Opened m p r → r ≡ true → (p < m.count) × ((d : Seat) → (get_or m.seats p d).is_open ≡ true)
open_there m p r o e = subst (Opened m p) e o

pub gone_there : (m : Mirror) (p : ℕ) (r : Bool) → Opened m p r → r ≡ false → process (world_of m) p ≡ gone
gone_there m p r o e = subst (Opened m p) e o
