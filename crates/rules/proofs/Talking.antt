-- From the talks that calls on a process promise to a table's step.
use Rattle.std.proofs.Common.{◌≡◌, ℕ, ◌+◌, cond, List, [], ◌∷◌, ◌++◌, map, length, Some, None, Ok, codes, Option, Result, sym, refl, ap, ◌∙◌, arith, bytes_eq}
use Rattle.std.specs.List.{position_from}
use Rattle.std.proofs.lemmas.List.{append-nil}
use Rattle.slices.specs.declared.name.Name.{Name}
use Rattle.slices.specs.Names.{name_bytes}
use Rattle.packetline.specs.Packets.{flush, line_pkt}
use Rattle.packetline.specs.Lines.{kind_of}
use Rattle.host.specs.declared.fault.LineFault.{LineFault}
use Rattle.host.specs.Worlds.{process, with_process}
use Rattle.host.specs.Talk.{Areas, Later, Wire, wire, Got, got, then, ends, send_all, Sight, Talks}
use Rattle.handshake.specs.Judged.{capability_line, capability_in, if_right, read_judged}
use Rattle.handshake.specs.Handshakes.{hello, welcomed, chosen, ended, at_place, with_name, names_turn, names_step, shaken, names_of, asks, flush_then, version_then, welcome_then, handshake}
use Rattle.host.specs.Talk.{read_text}
use Rattle.process.specs.Gather.{gather}
use Rattle.records.specs.Operations.{desired as desired_texts}
use Rattle.rules.specs.Names.{desired_names}
use Rattle.rules.specs.Steps.{greeting}

-- a call's talk, as a step sees it: there are replies to come with which it goes so
pub talk_later : {A : Type 0} (f : Wire → Got A) {w : Sight} {p : ℕ} {a : Areas} {r : Result A LineFault} {w' : Sight} {a' : Areas} (t : Talks f w p a r w' a') (rest : Later)
    → (later : Later) × (f (wire (process w.world p) later []) ≡ ends r (wire (process w'.world p) rest t.events))
talk_later f {p = p} {r = r} {w' = w'} t rest =
    let l = t.goes rest in
    (l.0, l.1 [] ∙ ap (λ es. ends r (wire (process w'.world p) rest es)) (append-nil t.events))

-- and the host is as the step leaves it
pub talk_world : {A : Type 0} (f : Wire → Got A) {w : Sight} {p : ℕ} {a : Areas} {r : Result A LineFault} {w' : Sight} {a' : Areas} (t : Talks f w p a r w' a')
    → with_process w.world p (process w'.world p) ≡ w'.world
talk_world f t = sym t.others

-- A handshake sees of names only what they spell.

place_alike : (ns ms : List Name) (s : List ℕ) (i : ℕ) → map name_bytes ns ≡ map name_bytes ms → position_from (λ n. bytes_eq (name_bytes n) s) i ns ≡ position_from (λ n. bytes_eq (name_bytes n) s) i ms
place_alike [] [] s i e = refl
place_alike [] (m ∷ ms) s i e = let z = ap length e in absurd (omega arith)
place_alike (n ∷ ns) [] s i e = let z = ap length e in absurd (omega arith)
place_alike (n ∷ ns) (m ∷ ms) s i e =
    let same : name_bytes n ≡ name_bytes m = cc in
    let rest : map name_bytes ns ≡ map name_bytes ms = cc in
    ap (λ x. cond (bytes_eq x s) (Some i) (position_from (λ y. bytes_eq (name_bytes y) s) (i + 1) ns)) same
    ∙ ap (λ x. cond (bytes_eq (name_bytes m) s) (Some i) x) (place_alike ns ms s (i + 1) rest)

lines_alike : (ns ms : List Name) → map name_bytes ns ≡ map name_bytes ms → map capability_line ns ≡ map capability_line ms
lines_alike [] [] e = refl
lines_alike [] (m ∷ ms) e = let z = ap length e in absurd (omega arith)
lines_alike (n ∷ ns) [] e = let z = ap length e in absurd (omega arith)
lines_alike (n ∷ ns) (m ∷ ms) e =
    let same : name_bytes n ≡ name_bytes m = cc in
    let rest : map name_bytes ns ≡ map name_bytes ms = cc in
    λ j. line_pkt (codes "capability=" ++ same j) ∷ lines_alike ns ms rest j

module _ (prefix versions : List ℕ) (ns ms : List Name) (e : map name_bytes ns ≡ map name_bytes ms) where
  name_alike : (m : ℕ) (o : Option (List ℕ)) → with_name ns m o ≡ with_name ms m o
  name_alike m None = refl
  name_alike m (Some s) = ap (at_place m) (place_alike ns ms s 0 e)

  step_alike : (m : ℕ) (x : Option (List ℕ)) → names_step ns m x ≡ names_step ms m x
  step_alike m None = refl
  step_alike m (Some t) = ap names_turn (name_alike m (capability_in (kind_of t)))

  names_alike : (n : ℕ) (u : Unit {0}) (v : Wire) → names_of ns n u v ≡ names_of ms n u v
  names_alike n u v = λ j. then (gather read_text (λ m x. step_alike m x j) 0 v) (if_right (λ m w. got (Ok (shaken n m)) w))

  asks_alike : (n : ℕ) (u : Unit {0}) (v : Wire) → asks ns n u v ≡ asks ms n u v
  asks_alike n u v = λ j. then (send_all (lines_alike ns ms e j ++ flush ∷ []) v) (λ u' v'. names_alike n u' v' j)

  flush_alike : (n : ℕ) (v : Wire) → flush_then ns n v ≡ flush_then ms n v
  flush_alike n v = λ j. then (read_judged ended v) (if_right (λ u' v'. asks_alike n u' v' j))

  version_alike : (u : Unit {0}) (v : Wire) → version_then versions ns u v ≡ version_then versions ms u v
  version_alike u v = λ j. then (read_judged (chosen versions) v) (if_right (λ n v'. flush_alike n v' j))

  welcome_alike : (u : Unit {0}) (v : Wire) → welcome_then prefix versions ns u v ≡ welcome_then prefix versions ms u v
  welcome_alike u v = λ j. then (read_judged (welcomed prefix) v) (if_right (λ u' v'. version_alike u' v' j))

  pub handshake_alike : (v : Wire) → handshake prefix versions ns v ≡ handshake prefix versions ms v
  handshake_alike v = λ j. then (send_all (hello prefix versions) v) (λ u' v'. welcome_alike u' v' j)

-- so a table's handshake with names that spell the desired ones is its greeting
pub greeting_by : (ns : List Name) → map name_bytes ns ≡ desired_texts → (v : Wire) → handshake (codes "git-filter") (2 ∷ []) ns v ≡ greeting v
unfolding desired_names
greeting_by ns e v = handshake_alike (codes "git-filter") (2 ∷ []) ns desired_names e v
