-- Packets that are sent in one call.
use Rattle.std.proofs.Common.{◌≡◌, ℕ, suc, List, [], ◌∷◌, ◌++◌, length, Ok, Err, Option, Result, sym, refl, ap, ◌∙◌, subst, arith, append-nil}
use Rattle.packetline.specs.Packets.{Pkt, packet, packets}
use Rattle.host.specs.declared.fault.Fault.{Fault}
use Rattle.host.specs.declared.fault.LineFault.{LineFault}
use Rattle.host.specs.declared.call.CallError.{CallError}
use Rattle.host.specs.declared.call.CallError.TheVariants.{Caller, Line}
use Rattle.host.specs.declared.peer.Peer.{Peer}
use Rattle.host.specs.Worlds.{World, process}
use Rattle.host.specs.Acts.{Log, refusal_of, sent_to}
use Rattle.host.specs.Calls.{Checked}
use Rattle.host.specs.Talk.{took, bytes_sent, bytes_given, Areas, Wire, wire, Got, got, lost, then, ends, sent_by, send, send_all, Sight, sight, Talks, Works}
use Rattle.host.proofs.Talking.{talk_none, talk_then, talk_stop}
use Rattle.process.specs.Given.{TalksBy}
use Rattle.host.specs.Peers.{seen, Does}
use Rattle.process.proofs.Peering.{back_by}
use Rattle.process.proofs.Passes.{AllSent, PartSent, part_passes, part_less, Told, told_by_talk}
use Rattle.server.specs.Says.{SaysLaw, Says}

-- nothing was given from v on
abbrev Unheard : Wire → Got (Unit {0}) → Type 0
Unheard v (got a u) = bytes_given u.events ≡ bytes_given v.events
Unheard v (lost f u) = bytes_given u.events ≡ bytes_given v.events

sent_unheard : (b : List ℕ) (v : Wire) (r : Result (Unit {0}) Fault) (k : Unit {0} → Wire → Got (Unit {0})) → ((u : Wire) → Unheard u (k tt u)) → Unheard v (then (sent_by r b v) k)
sent_unheard b v (Ok a) k on = on (wire (sent_to v.end b (v.later 0)) (λ n. v.later (suc n)) (took b ∷ v.events))
sent_unheard b v (Err f) k on = refl

unheard : (ps : List Pkt) (v : Wire) → Unheard v (send_all ps v)
unheard [] v = refl
unheard (p ∷ ps) v = sent_unheard (packet p) v (refusal_of v.end (length (packet p))) (λ _ u. send_all ps u) (λ u. unheard ps u)

none_given : (v u : Wire) (r : Result (Unit {0}) LineFault) → Unheard v (ends r u) → bytes_given u.events ≡ bytes_given v.events
none_given v u (Ok a) h = h
none_given v u (Err f) h = h

law_by : (ps : List Pkt) (sent given : List ℕ) (r : Result (Unit {0}) LineFault) → given ≡ [] → Told (AllSent ps) (PartSent ps) sent given r → SaysLaw ps sent given r
law_by ps sent given (Ok a) none (gs, (ss, reads, said, h)) =
    record { nothing_given = none; says = λ e. said ∙ ap packets h.1; only = λ e. refl; stops = λ f is. let z : ◌≡◌ {A = ℕ} 0 1 = cc in absurd (omega arith) }
law_by ps sent given (Err f) none (gs, (ss, reads, said, (g, (x, (rest, e))))) =
    record {
      nothing_given = none;
      says = λ is. let z : ◌≡◌ {A = ℕ} 0 1 = cc in absurd (omega arith);
      only = λ is. absurd (part_less ps ss x rest e (sym said ∙ is));
      stops = λ y is. (ss, (x, (rest, e, said)));
    }

-- packets that are sent have their law
pub says_talk : {ps : List Pkt} {w : Sight} {p : ℕ} {a : Areas} {r : Result (Unit {0}) LineFault} {w' : Sight} {a' : Areas} → Talks (send_all ps) w p a r w' a' → TalksBy (SaysLaw ps) (send_all ps) w p a r w' a'
says_talk {ps} {w = w} {p = p} {r = r} {w' = w'} t =
    let l = t.goes (λ _ _ _. []) in
    let v = wire (process w.world p) l.0 [] in
    let u = wire (process w'.world p) (λ _ _ _. []) (t.events ++ []) in
    let none = none_given v u r (subst (Unheard v) (l.1 []) (unheard ps v)) in
    (t, law_by ps (bytes_sent t.events) (bytes_given t.events) r (ap bytes_given (sym (append-nil t.events)) ∙ none) (told_by_talk (AllSent ps) (PartSent ps) (send_all ps) (part_passes ps) t))

-- one packet
one_talk : (x : Pkt) {w : Sight} {p : ℕ} {a : Areas} {w' : Sight} {a' : Areas} (r : Result (Unit {0}) LineFault) → Talks (send x) w p a r w' a' → Talks (send_all (x ∷ [])) w p a r w' a'
one_talk x (Ok u) t = talk_then (λ _ v. got tt v) u t (talk_none (Ok tt) _ _ _)
one_talk x (Err e) t = talk_stop (λ _ v. got tt v) e t

pub says_one : {x : Pkt} {w : Sight} {p : ℕ} {a : Areas} {r : Result (Unit {0}) LineFault} {w' : Sight} {a' : Areas} → Talks (send x) w p a r w' a' → TalksBy (SaysLaw (x ∷ [])) (send_all (x ∷ [])) w p a r w' a'
says_one {x} {r = r} t = says_talk {ps = x ∷ []} (one_talk x r t)

-- a call that sends packets says them
pub checked_says : {C : Type 0} (fault : Option C) (same P : Type 0) (ps : List Pkt) (w : Sight) (p : ℕ) (work : List ℕ) (w' : Sight) (work' : List ℕ) (r : Result (Unit {0}) (CallError C LineFault))
    → Checked fault (λ x. P × Works (send_all ps) w p work x w' work') same r → Checked fault (λ x. P × Says ps w p work x w' work') same r
checked_says fault same P ps w p work w' work' (Ok u) (e, (h, t)) = (e, (h, λ status. says_talk (t status)))
checked_says fault same P ps w p work w' work' (Err (Line f)) (e, (h, t)) = (e, (h, λ status. says_talk (t status)))
checked_says fault same P ps w p work w' work' (Err (Caller c)) h = h

-- what a caller knows of the host and the area that he lent, once the peer is gone
pub back_says : {H : Type 0} (log : H → Log) (world : H → World) {ps : List Pkt} {p p' : Peer H} {r : Result (Unit {0}) LineFault} (host : H) (work : List ℕ)
    → Does log world (send_all ps) p r p' → host ≡ p'.host.now → work ≡ p'.work.now → Says ps (seen log world p) p.process p.work.now r (sight (log host) (world host)) work
back_says log world {ps} host work d h w = back_by log world {law = SaysLaw ps} host work (record { lent = d.lent; talks = λ status. says_talk (d.talks status) }) h w
