-- A whole writing: its packets, and then its flush.
use Rattle.std.proofs.Common.{◌≡◌, ℕ, List, [], ◌∷◌, ◌++◌, length, cond, nat_le, Some, None, Ok, Err, Option, Result, sym, refl, ap, ◌∙◌, arith, append-nil, length-append}
use Rattle.packetline.specs.Packets.{flush, packets}
use Rattle.host.specs.declared.call.AreaTooShort.{AreaTooShort}
use Rattle.host.specs.declared.call.CallError.{CallError}
use Rattle.host.specs.declared.call.CallError.TheVariants.{Caller, Line}
use Rattle.host.specs.Calls.{Checked, room}
use Rattle.host.specs.Refusals.{too_short}
use Rattle.host.specs.declared.fault.LineFault.{LineFault}
use Rattle.host.specs.Talk.{bytes_sent, bytes_given, Sight}
use Rattle.host.proofs.Talking.{talk_then, talk_stop}
use Rattle.process.specs.Given.{WorksBy}
use Rattle.process.proofs.Passes.{packets_append}
use Rattle.process.proofs.Packetwise.{given_append, sent_append}
use Rattle.server.specs.declared.refused.Refused.{Refused}
use Rattle.server.specs.declared.response.Response.{Response}
use Rattle.server.specs.declared.writing.Writing.{Writing}
use Rattle.server.specs.declared.writing.Unflushed.{Unflushed}
use Rattle.server.specs.declared.writing.Unflushed.TheVariants.{Open, Ended}
use Rattle.server.specs.Says.{Before, Says}
use Rattle.server.specs.Writings.{written_packets, unflushed, widened, flush_then, written_whole, WholeLaw}

-- nothing stands before a lone flush
none_before : (sent : List ℕ) → Before (flush ∷ []) sent → sent ≡ []
none_before sent ([], (p, (rest, e, s))) = s
none_before sent (q ∷ first, (p, (rest, e, s))) = let n = ap length e in absurd (omega (arith, n, length-append first (p ∷ rest)))

abbrev Answer : Type 0
Answer = Result Response (Unflushed (CallError AreaTooShort LineFault))

module _ (bytes : List ℕ) (w : Sight) (p : ℕ) (work : List ℕ) (w₁ : Sight) (work₁ : List ℕ) where
  abbrev Goes : Answer → Result (Unit {0}) LineFault → Sight → List ℕ → Type 0
  Goes result r w' work' = WorksBy (WholeLaw bytes result) (written_whole bytes) w p work r w' work'

  pub whole_open : (q : Refused Writing (CallError AreaTooShort LineFault)) (f : LineFault) → Says (written_packets bytes) w p work (Err f) w₁ work₁ → Goes (Err (Open q)) (Err f) w₁ work₁
  unfolding talk_stop
  whole_open q f s status =
      let t = (s status).0 in
      let law = (s status).1 in (
        talk_stop flush_then f t,
        record {
          nothing_given = law.nothing_given;
          says = λ e. let z : ◌≡◌ {A = ℕ} 0 1 = cc in absurd (omega arith);
          open_at = λ x e. law.stops f refl;
          ended_at = λ x e. let z : ◌≡◌ {A = ℕ} 0 1 = cc in absurd (omega arith);
        },
      )

  module _ (u : Unit {0}) (s : Says (written_packets bytes) w p work (Ok u) w₁ work₁) (w₂ : Sight) (work₂ : List ℕ) where
    pub whole_ended : (q : Refused Response LineFault) (f : LineFault) → Says (flush ∷ []) w₁ p work₁ (Err f) w₂ work₂ → Goes (Err (Ended q)) (Err f) w₂ work₂
    unfolding talk_then
    whole_ended q f t status =
        let a = s status in
        let b = t status in (
          talk_then flush_then u a.0 b.0,
          record {
            nothing_given = given_append b.0.events a.0.events ∙ ap (λ l. l ++ bytes_given b.0.events) a.1.nothing_given ∙ b.1.nothing_given;
            says = λ e. let z : ◌≡◌ {A = ℕ} 0 1 = cc in absurd (omega arith);
            open_at = λ x e. let z : ◌≡◌ {A = ℕ} 0 1 = cc in absurd (omega arith);
            ended_at = λ x e.
                sent_append b.0.events a.0.events ∙ ap (λ l. bytes_sent a.0.events ++ l) (none_before _ (b.1.stops f refl)) ∙ append-nil (bytes_sent a.0.events) ∙ a.1.says refl;
          },
        )

    pub whole_done : (answer : Response) (v : Unit {0}) → Says (flush ∷ []) w₁ p work₁ (Ok v) w₂ work₂ → Goes (Ok answer) (Ok v) w₂ work₂
    unfolding talk_then
    whole_done answer v t status =
        let a = s status in
        let b = t status in (
          talk_then flush_then u a.0 b.0,
          record {
            nothing_given = given_append b.0.events a.0.events ∙ ap (λ l. l ++ bytes_given b.0.events) a.1.nothing_given ∙ b.1.nothing_given;
            says = λ e.
                sent_append b.0.events a.0.events ∙ ap (λ l. l ++ bytes_sent b.0.events) (a.1.says refl) ∙ ap (λ l. packets (written_packets bytes) ++ l) (b.1.says refl)
                ∙ sym (packets_append (written_packets bytes) (flush ∷ []));
            open_at = λ x e. let z : ◌≡◌ {A = ℕ} 0 1 = cc in absurd (omega arith);
            ended_at = λ x e. let z : ◌≡◌ {A = ℕ} 0 1 = cc in absurd (omega arith);
          },
        )

  -- a refused write
  pub open_checked : (fault : Option AreaTooShort) (same P : Type 0) (q : Refused Writing (CallError AreaTooShort LineFault)) (e : CallError AreaTooShort LineFault)
      → Checked fault (λ x. P × Says (written_packets bytes) w p work x w₁ work₁) same (Err e) → Checked fault (λ x. P × Goes (Err (Open q)) x w₁ work₁) same (Err e)
  open_checked fault same P q (Line f) (right, (h, s)) = (right, (h, whole_open q f s))
  open_checked fault same P q (Caller c) h = h

  -- a refused flush: the area, which was long enough for the write, still is
  pub ended_checked : (P here same : Type 0) → room work ≡ None → length work₁ ≡ length work → P → (u : Unit {0}) → Says (written_packets bytes) w p work (Ok u) w₁ work₁ → (w₂ : Sight) (work₂ : List ℕ) (e : Unflushed AreaTooShort)
      → Checked (room work₁) (λ x. Says (flush ∷ []) w₁ p work₁ x w₂ work₂) here (Err (unflushed Caller e))
      → Checked (room work) (λ x. P × Goes (Err (widened e)) x w₂ work₂) same (Err (unflushed (λ y. y) (widened e)))
  ended_checked P here same right long h u s w₂ work₂ (Open q) t =
      let none = ap (λ n. cond (nat_le 65520 n) None (Some too_short)) long ∙ right in
      let some = t.0 in
      let z : ◌≡◌ {A = ℕ} 0 1 = cc in
      absurd (omega arith)
  ended_checked P here same right long h u s w₂ work₂ (Ended q) t = (right, (h, whole_ended u s w₂ work₂ q q.why t.1))
