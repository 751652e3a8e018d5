-- A handshake with a process of a mirror.
use Rattle.std.proofs.Common.{◌≡◌, ℕ, ◌-◌, ◌≤◌, true, false, ◌&&◌, leb, List, [], ◌∷◌, map, length, None, Ok, Err, codes, Result, sym, refl, ap, ◌∙◌, arith}
use Rattle.std.specs.Result.{IfOk}
use Rattle.std.proofs.lemmas.Bool.{le-leb, cond-true}
use Rattle.slices.specs.declared.name.Name.{Name}
use Rattle.slices.specs.Names.{name_bytes}
use Rattle.packetline.specs.declared.encode.Error.{Error as Misuse}
use Rattle.packetline.specs.Packets.{flush, line}
use Rattle.host.specs.declared.call.CallError.{CallError}
use Rattle.host.specs.declared.call.CallError.TheVariants.{Caller, Line}
use Rattle.host.specs.Calls.{Checked}
use Rattle.host.specs.Worlds.{Pipe, Process, gone, live, World, process, with_process}
use Rattle.host.specs.Talk.{wire, got, read_text, Sight}
use Rattle.host.proofs.Knowing.{talk_did}
use Rattle.host.proofs.Takes.{process_with}
use Rattle.process.specs.Given.{WorksBy}
use Rattle.process.specs.Masks.{with_bit, holds}
use Rattle.process.proofs.Gathers.{leaves_read_text}
use Rattle.handshake.specs.declared.protocol.Protocol.{Protocol}
use Rattle.handshake.specs.declared.protocol.Refusal.{Refusal}
use Rattle.handshake.specs.declared.protocol.Refusal.TheVariants.{Line as of_line, Protocol as of_protocol}
use Rattle.handshake.specs.Judged.{heard, if_right}
use Rattle.handshake.specs.Handshakes.{Shaken, shaken, handshake, HandshakeLaw, welcomed, chosen, ended, names_step, welcome_then, version_then, flush_then, asks, names_of, protocol_number}
use Rattle.client.specs.declared.client.Client.{Client}
use Rattle.client.specs.Greetings.{shaken_with, handshake_fault}
use Rattle.mirror.specs.Stages.{hailing, offering, naming, idle, stands}
use Rattle.mirror.specs.Worlds.{Skills, StandsAt}
use Rattle.mirrored.specs.Greeted.{Greets}
use Rattle.mirrored.proofs.Coming.{Settled, settled, comes_done, comes_then, comes_sent, comes_more, comes_stop, prefix, at, says, reads_text, reads_end, judges_line, judges_end}
use Rattle.mirrored.proofs.Hearing.{hello_is, hears_welcome, hears_version, hears_offered, hears_clean, hears_smudge, hears_delay, hears_names, welcome_text, welcome_right, version_text, version_right, clean_text, smudge_text, desired_is, names_clean, names_smudge}

module _ (names : List Name) (skills : Skills names) (wanted : List Name) (desires : map name_bytes wanted ≡ codes "clean" ∷ codes "smudge" ∷ codes "delay" ∷ []) (n : ℕ) (room : 103 ≤ n) where
  -- the bits of the first two names
  abbrev pub both_bits : ℕ
  both_bits = with_bit (with_bit 0 0) 1

  abbrev pub said_in_all : ℕ
  said_in_all = n - 21 - 13 - 4 - 20 - 21 - 20 - 4

  shakes : Settled (handshake prefix (2 ∷ []) wanted) (at names hailing [] n) (Ok (shaken 2 both_bits)) (at names idle [] said_in_all)
  shakes =
      settled (λ later.
      comes_then (welcome_then prefix (2 ∷ []) wanted)
      (comes_sent hello_is (wire (live (at names hailing [] n)) later [])
      (comes_then _ (says names hailing n (line (codes "git-filter-client")) 21 (stands (offering [])) later [] refl refl (omega arith) (hears_welcome names)) (λ la.
      comes_then _ (says names (offering []) (n - 21) (line (codes "version=2")) 13 (stands (offering (2 ∷ []))) la _ refl refl (omega arith) (hears_version names)) (λ lb.
      comes_then _ (says names (offering (2 ∷ [])) (n - 21 - 13) flush 4 _ lb _ refl refl (omega arith) (hears_offered names)) (λ lc.
      comes_done tt _ lc _))))) (λ l1.
      comes_then (if_right (version_then (2 ∷ []) wanted)) (judges_line names (welcomed prefix) (Ok tt) (naming 2 []) (codes "git-filter-server") _ (line (codes "version=2") ∷ flush ∷ []) _ l1 _ refl welcome_text welcome_right) (λ l2.
      comes_then (if_right (flush_then wanted)) (judges_line names (chosen (2 ∷ [])) (Ok 2) (naming 2 []) (codes "version=2") _ (flush ∷ []) _ l2 _ refl version_text version_right) (λ l3.
      comes_then (if_right (asks wanted 2)) (judges_end names ended (Ok tt) (naming 2 []) [] _ l3 _ refl) (λ l4.
      comes_then (names_of wanted 2)
      (comes_sent (desired_is wanted desires) _
      (comes_then _ (says names (naming 2 []) (n - 21 - 13 - 4) (line (codes "capability=clean")) 20 (stands (naming 2 (0 ∷ []))) l4 _ refl refl (omega arith) (hears_clean names skills)) (λ la.
      comes_then _ (says names (naming 2 (0 ∷ [])) (n - 21 - 13 - 4 - 20) (line (codes "capability=smudge")) 21 (stands (naming 2 (0 ∷ 1 ∷ []))) la _ refl refl (omega arith) (hears_smudge names skills)) (λ lb.
      comes_then _ (says names (naming 2 (0 ∷ 1 ∷ [])) (n - 21 - 13 - 4 - 20 - 21) (line (codes "capability=delay")) 20 (stands (naming 2 (0 ∷ 1 ∷ []))) lb _ refl refl (omega arith) (hears_delay names skills)) (λ lc.
      comes_then _ (says names (naming 2 (0 ∷ 1 ∷ [])) (n - 21 - 13 - 4 - 20 - 21 - 20) flush 4 _ lc _ refl refl (omega arith) (hears_names names skills)) (λ ld.
      comes_done tt _ ld _)))))) (λ l5.
      comes_then (if_right (λ m u. got (Ok (shaken 2 m)) u))
      (comes_more read_text (names_step wanted) leaves_read_text (reads_text names idle (codes "capability=clean") _ (line (codes "capability=smudge") ∷ flush ∷ []) _ l5 _ refl clean_text) (names_clean wanted desires) (λ la.
      comes_more read_text (names_step wanted) leaves_read_text (reads_text names idle (codes "capability=smudge") _ (flush ∷ []) _ la _ refl smudge_text) (names_smudge wanted desires (with_bit 0 0)) (λ lb.
      comes_stop read_text (names_step wanted) leaves_read_text (reads_end names idle [] _ lb _) refl))) (λ l6.
      comes_done (Ok (shaken 2 both_bits)) _ l6 _)))))))

-- What the call tells of its client

abbrev pub Answer : Type 0
Answer = Result Client (Refusal Protocol)

told_so : (x : Answer) (s : Shaken) → heard protocol_number shaken_with x ≡ Ok (Ok s) → (c : Client) × (x ≡ Ok c) × (shaken_with c ≡ s)
told_so (Ok c) s e = (c, refl, cc)
told_so (Err (of_line f)) s e = let z : ◌≡◌ {A = ℕ} 0 1 = cc in absurd (omega arith)
told_so (Err (of_protocol p)) s e = let z : ◌≡◌ {A = ℕ} 0 1 = cc in absurd (omega arith)

to_open : Process → Process → Process
to_open q gone = gone
to_open q (live r) = q

-- the process that a talk left
pub left_at : (w : World) (p : ℕ) (r : Pipe) (q : Process) → process w p ≡ live r → process (with_process w p q) p ≡ q
unfolding to_open
left_at w p r q e = ap (λ x. process (with_process w p x) p) (sym (ap (to_open q) e)) ∙ process_with w p (to_open q) refl ∙ ap (to_open q) e

pub bits : (holds (with_bit (with_bit 0 0) 1) 0 ≡ true) × (holds (with_bit (with_bit 0 0) 1) 1 ≡ true) × (holds (with_bit (with_bit 0 0) 1) 2 ≡ false)
unfolding with_bit
bits = (refl, refl, refl)

ok_not_err : (e : Refusal Protocol) (c : Client) → ◌≡◌ {A = Answer} (Err e) (Ok c) → ⊥
ok_not_err e c h = let z : ◌≡◌ {A = ℕ} 0 1 = cc in omega arith

module _ (wanted : List Name) (desires : map name_bytes wanted ≡ codes "clean" ∷ codes "smudge" ∷ codes "delay" ∷ []) (called : List ℕ) (is : called ≡ prefix) (w : Sight) (p : ℕ) (work : List ℕ) (w' : Sight) (work' : List ℕ) where
  abbrev pub Spoke : Answer → Type 0
  Spoke x = WorksBy (HandshakeLaw called (2 ∷ []) wanted) (handshake called (2 ∷ []) wanted) w p work (heard protocol_number shaken_with x) w' work'

  module _ (names : List Name) (n : ℕ) (skills : Skills names) (stands_at : StandsAt w.world p names hailing [] n) (room : 103 ≤ n) where
    spoke : (x : Answer) → Spoke x → ((c : Client) × (x ≡ Ok c) × (shaken_with c ≡ shaken 2 (with_bit (with_bit 0 0) 1))) × StandsAt w'.world p names idle [] (n - 103)
    spoke x t =
        let s = shakes names skills wanted desires n room in
        let q = live (at names idle [] (said_in_all names skills wanted desires n room)) in
        let d = talk_did (t []).0 stands_at (Ok (Ok (shaken 2 (with_bit (with_bit 0 0) 1)))) q s.events
        (λ later. let c = s.comes later in (c.later, ap (λ (b : List ℕ). handshake b (2 ∷ []) wanted (wire (live (at names hailing [] n)) later [])) is ∙ c.is)) in
        let all : said_in_all names skills wanted desires n room ≡ n - 103 = omega arith in (
          told_so x (shaken 2 (with_bit (with_bit 0 0) 1)) d.0,
          ap (λ (v : World). process v p) d.1 ∙ left_at w.world p (at names hailing [] n) q stands_at ∙ ap (λ m. live (at names idle [] m)) all,
        )

  fault_none : 65520 ≤ length work → length wanted ≡ 3 → handshake_fault work (2 ∷ []) wanted ≡ None
  fault_none h l =
      cond-true (leb 65520 (length work)) _ _ (le-leb 65520 (length work) h)
      ∙ cond-true (true && leb (length wanted) 32) _ _ (le-leb (length wanted) 32 (omega arith))

  pub greets : (same : Type 0) (r : Result Client (CallError Misuse (Refusal Protocol))) → length wanted ≡ 3 → Checked (handshake_fault work (2 ∷ []) wanted) Spoke same r → IfOk r (λ c. c.process ≡ p) → Greets w.world p work r w'.world
  greets same (Ok c) l h itself names n skills at_it room long =
      let t = spoke names n skills at_it room (Ok c) h.1 in
      let same_client : t.0.0 ≡ c = let e = t.0.1 in cc in
      let told : shaken_with c ≡ shaken 2 (with_bit (with_bit 0 0) 1) = ap shaken_with (sym same_client) ∙ t.0.2 in
      let mask : c.capabilities.mask ≡ with_bit (with_bit 0 0) 1 = ap (λ (s : Shaken). s.mask) told in (
        (
          c,
          refl,
          record {
            process = itself;
            version = ap (λ (s : Shaken). s.version) told;
            cleans = ap (λ m. holds m 0) mask ∙ bits.0;
            smudges = ap (λ m. holds m 1) mask ∙ bits.1;
            delays_not = ap (λ m. holds m 2) mask ∙ bits.2;
          },
        ),
        t.1,
      )
  greets same (Err (Line e)) l h itself names n skills at_it room long =
      let t = spoke names n skills at_it room (Err e) h.1 in
      absurd (ok_not_err e t.0.0 t.0.1)
  greets same (Err (Caller m)) l h itself names n skills at_it room long =
      let e = sym (fault_none long l) ∙ h.0 in
      let z : ◌≡◌ {A = ℕ} 0 1 = cc in
      absurd (omega arith)
