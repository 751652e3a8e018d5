-- What is given of a request's first line, and what that tells.
use Rattle.std.proofs.Common.{◌≡◌, ℕ, ◌<◌, ◌≤◌, Bool, true, false, cond, leb, ◌⊎◌, List, [], ◌∷◌, ◌++◌, length, Some, None, Ok, Err, codes, Option, Result, sym, refl, ap, ◌∙◌, subst, inl, inr, ⊎_elim, arith}
use Rattle.std.proofs.lemmas.Bool.{leb-true, leb-false}
use Rattle.packetline.specs.Lines.{after_prefix}
use Rattle.packetline.specs.Packets.{Pkt, flush, delimiter, response_end, line, Decoded, decode, packets}
use Rattle.packetline.specs.Text.{utf8, trim_end, text_of}
use Rattle.host.specs.declared.fault.Fault.TheVariants.{Closed, Broken, Other}
use Rattle.host.specs.declared.fault.LineFault.{LineFault}
use Rattle.host.specs.declared.fault.LineFault.TheVariants.{Host, Packet, Marker, Text}
use Rattle.host.specs.Worlds.{process}
use Rattle.host.specs.Talk.{Event, bytes_sent, bytes_given, Areas, Wire, wire, Got, got, lost, then, ends, read, wanted, texted, text_in, Sight, Talks}
use Rattle.process.specs.Given.{ReadsAs}
use Rattle.process.proofs.LineKinds.{After, after_law}
use Rattle.process.proofs.Passes.{Passed, OneRead, NoneRead, whole_passes, Since, Until, since_told, until_told}
use Rattle.requests.specs.Stored.{request}
use Rattle.requests.specs.Requests.{with_command, command_in, unasked, begun, read_command, CommandIs, RequestLaw, kept_of, text_kept, command_kept, behind_kept, stored_in}
use Rattle.requests.proofs.FirstLines.{never}
use Rattle.requests.proofs.Leading.{Outcome, judged_text, judged, Verdict, lead_by, leads, Led, Means, law_by}

abbrev first : ℕ → Got Pkt → Got (Result (Option (List ℕ)) ℕ)
first room (got p v) = ends (judged room p) v
first room (lost e v) = ends (unasked e) v

texted_first : (room : ℕ) (r : Result (List ℕ) ℕ) (v : Wire) → begun (command_in room) (texted r v) ≡ ends (judged_text room r) v
texted_first room (Ok t) v = refl
texted_first room (Err n) v = refl

first_is : (room : ℕ) (g : Got Pkt) → begun (command_in room) (then (then g wanted) text_in) ≡ first room g
first_is room (got flush v) = refl
first_is room (got delimiter v) = refl
first_is room (got response_end v) = refl
first_is room (got (line l) v) = texted_first room (text_of l) v
first_is room (lost e v) = refl

ends_same : {A : Type 0} (a b : Result A LineFault) (u v : Wire) → ends a u ≡ ends b v → (a ≡ b) × (u ≡ v)
ends_same (Ok x) (Ok y) u v e = let h : x ≡ y = cc in let k : u ≡ v = cc in (ap (λ z. Ok z) h, k)
ends_same (Ok x) (Err f) u v e = let z : ◌≡◌ {A = ℕ} 0 1 = cc in absurd (omega arith)
ends_same (Err f) (Ok y) u v e = let z : ◌≡◌ {A = ℕ} 0 1 = cc in absurd (omega arith)
ends_same (Err f) (Err g) u v e = let h : f ≡ g = cc in let k : u ≡ v = cc in (ap (λ z. Err z) h, k)

-- one packet was given, or less than one
pub record FirstGiven (room : ℕ) (sent given : List ℕ) (x : Outcome) : Type 0 where
  pub silent : sent ≡ []
  pub from : ((p : Pkt) × ReadsAs given (p ∷ []) × (x ≡ judged room p)) ⊎ (((decode given).packets ≡ []) × ((e : LineFault) × (x ≡ unasked e)))

first_told : (room : ℕ) (v u : Wire) (es : List Event) (x : Outcome) → v.events ≡ [] → u.events ≡ es ++ [] → (g : Got Pkt) → Passed OneRead NoneRead v g → first room g ≡ ends x u
    → FirstGiven room (bytes_sent es) (bytes_given es) x
first_told room v u es x start end (got p u₁) (gs, (ss, s, h)) is =
    let same = ends_same (judged room p) x u₁ u is in
    let t = since_told v u es gs ss start end (subst (λ y. Since v y gs ss) same.1 s) in
    record { silent = t.1 ∙ ap packets h.1; from = inl (p, t.0 ∙ ap (λ (ps : List Pkt). record { packets = ps; left = [] }) h.0, sym same.0) }
first_told room v u es x start end (lost e u₁) (gs, (ss, s, h)) is =
    let same = ends_same (unasked e) x u₁ u is in
    let t = until_told v u es gs ss start end (subst (λ y. Until v y gs ss) same.1 s) in
    record { silent = t.1 ∙ ap packets h.1; from = inr (t.0 ∙ h.0, (e, sym same.0)) }

pub first_given : (room : ℕ) {w : Sight} {p : ℕ} {a : Areas} {x : Outcome} {w' : Sight} {a' : Areas} (t : Talks (read_command room) w p a x w' a')
    → FirstGiven room (bytes_sent t.events) (bytes_given t.events) x
first_given room {w = w} {p = p} {x = x} {w' = w'} t =
    let l = t.goes (λ _ _ _. []) in
    let v = wire (process w.world p) l.0 [] in
    first_told room v (wire (process w'.world p) (λ _ _ _. []) (t.events ++ [])) t.events x refl refl (read v) (whole_passes v).by (sym (first_is room (read v)) ∙ l.1 [])

-- A command

text_of_is : (b : Bool) (room : ℕ) (t c : List ℕ) (n : ℕ) → ◌≡◌ {A = Outcome} (judged_text room (cond b (Ok t) (Err n))) (Ok (Ok (Some c))) → (b ≡ true) × (command_in room (Some t) ≡ Ok (Some c))
text_of_is true room t c n e = let h : command_in room (Some t) ≡ Ok (Some c) = cc in (refl, h)
text_of_is false room t c n e = let z : ◌≡◌ {A = ℕ} 0 1 = cc in absurd (omega arith)

fits_is : (b : Bool) (d c : List ℕ) (n : ℕ) → ◌≡◌ {A = Result (Option (List ℕ)) ℕ} (cond b (Ok (Some d)) (Err n)) (Ok (Some c)) → (b ≡ true) × (d ≡ c)
fits_is true d c n e = let h : d ≡ c = cc in (refl, h)
fits_is false d c n e = let z : ◌≡◌ {A = ℕ} 0 1 = cc in absurd (omega arith)

command_is : (room : ℕ) (p t : List ℕ) (o : Option (List ℕ)) (c : List ℕ) → After p t o → with_command room o ≡ Ok (Some c) → (t ≡ p ++ c) × (length c ≤ room)
command_is room p t None c h e = let z : ◌≡◌ {A = ℕ} 0 1 = cc in absurd (omega arith)
command_is room p t (Some d) c h e =
    let k = fits_is (leb (length d) room) d c 7 e in
    let l : length d ≤ room = leb-true (length d) room k.0 in
    (sym h ∙ ap (λ x. p ++ x) k.1, subst (λ x. length x ≤ room) k.1 l)

-- a packet that gives a command
pub record Commands (room : ℕ) (p : Pkt) (c : List ℕ) : Type 0 where
  pub first : List ℕ
  pub is : p ≡ line first
  pub commands : CommandIs first c
  pub room_for : length c ≤ room

commands_of : (room : ℕ) (p : Pkt) (c : List ℕ) → judged room p ≡ Ok (Ok (Some c)) → Commands room p c
commands_of room flush c e = let z : ◌≡◌ {A = ℕ} 0 1 = cc in absurd (omega arith)
commands_of room delimiter c e = let z : ◌≡◌ {A = ℕ} 0 1 = cc in absurd (omega arith)
commands_of room response_end c e = let z : ◌≡◌ {A = ℕ} 0 1 = cc in absurd (omega arith)
commands_of room (line l) c e =
    let t = text_of_is (utf8 l) room (trim_end l) c 22 e in
    let k = command_is room (codes "command=") (trim_end l) (after_prefix (codes "command=") (trim_end l)) c (after_law (codes "command=") (trim_end l)) t.1 in
    record { first = l; is = refl; commands = record { text = t.0; spells = k.0 }; room_for = k.1 }

-- one packet was given, which gives the command
pub first_command : (room : ℕ) (sent given c : List ℕ) → FirstGiven room sent given (Ok (Ok (Some c))) → (p : Pkt) × ReadsAs given (p ∷ []) × (judged room p ≡ Ok (Ok (Some c))) × Commands room p c
first_command room sent given c f =
    ⊎_elim
    (λ (h : (p : Pkt) × ReadsAs given (p ∷ []) × (Ok (Ok (Some c)) ≡ judged room p)). (h.0, h.1, sym h.2, commands_of room h.0 c (sym h.2)))
    (λ (h : ((decode given).packets ≡ []) × ((e : LineFault) × (Ok (Ok (Some c)) ≡ unasked e))). absurd (never h.1.0 c h.1.1))
    f.from

-- No command

abbrev pub out : Outcome → Option (List ℕ)
out (Ok r) = kept_of r
out (Err e) = None

-- what a call answers that says no more than its first line
abbrev pub bare : Outcome → Result Verdict LineFault
bare (Ok (Ok None)) = Ok (Ok None)
bare (Ok (Ok (Some c))) = Ok (Ok None)
bare (Ok (Err n)) = Ok (Err n)
bare (Err e) = Err e

module _ (rows room : ℕ) (given : List ℕ) where
  lead_bare : (x : Outcome) → out x ≡ None → leads rows room (decode given).packets ≡ lead_by rows room x [] → Led rows room given (bare x)
  lead_bare (Ok (Ok None)) none h = inr h
  lead_bare (Ok (Ok (Some c))) none h = let z : ◌≡◌ {A = ℕ} 0 1 = cc in absurd (omega arith)
  lead_bare (Ok (Err n)) none h = h
  lead_bare (Err e) none h = h

  none_led : (e : LineFault) → leads rows room (decode given).packets ≡ None → Led rows room given (bare (unasked e))
  none_led (Host Closed) h = inl h
  none_led (Host Broken) h = h
  none_led (Host Other) h = h
  none_led (Packet e) h = h
  none_led Marker h = inl h
  none_led (Text e) h = h

  none_means : (e : LineFault) → (decode given).packets ≡ [] → Means rows room given (bare (unasked e))
  none_means (Host Closed) h = inr h
  none_means (Host Broken) h = tt
  none_means (Host Other) h = tt
  none_means (Packet e) h = tt
  none_means Marker h = inr h
  none_means (Text e) h = tt

  module _ (l : List ℕ) (reads : ReadsAs given (line l ∷ [])) where
    room_means : (b : Bool) (c : List ℕ) → CommandIs l c → leb (length c) room ≡ b → out (Ok (cond b (Ok (Some c)) (Err 7))) ≡ None → Means rows room given (bare (Ok (cond b (Ok (Some c)) (Err 7))))
    room_means true c k e none = let z : ◌≡◌ {A = ℕ} 0 1 = cc in absurd (omega arith)
    room_means false c k e none = let long : room < length c = leb-false (length c) room e in inr (inr (refl, inl (l, c, reads, k, long)))

    command_means : (t : utf8 l ≡ true) (o : Option (List ℕ)) → After (codes "command=") (trim_end l) o → out (Ok (with_command room o)) ≡ None → Means rows room given (bare (Ok (with_command room o)))
    command_means t None h none = inl (refl, inr (l, reads, t, h))
    command_means t (Some c) h none = room_means (leb (length c) room) c (record { text = t; spells = sym h }) refl none

    text_means : (b : Bool) → utf8 l ≡ b → out (judged_text room (cond b (Ok (trim_end l)) (Err 22))) ≡ None → Means rows room given (bare (judged_text room (cond b (Ok (trim_end l)) (Err 22))))
    text_means true t none = command_means t (after_prefix (codes "command=") (trim_end l)) (after_law (codes "command=") (trim_end l)) none
    text_means false t none = tt

  judged_means : (p : Pkt) → ReadsAs given (p ∷ []) → out (judged room p) ≡ None → Means rows room given (bare (judged room p))
  judged_means flush reads none = inl (refl, inl reads)
  judged_means delimiter reads none = inl (inl reads)
  judged_means response_end reads none = inl (inr reads)
  judged_means (line l) reads none = text_means l reads (utf8 l) refl none

  module _ (sent : List ℕ) (x : Outcome) (f : FirstGiven room sent given x) (none : out x ≡ None) where
    first_led : Led rows room given (bare x)
    first_led =
        ⊎_elim
        (λ (h : (p : Pkt) × ReadsAs given (p ∷ []) × (x ≡ judged room p)).
        lead_bare x none (ap (λ (d : Decoded). leads rows room d.packets) h.1 ∙ ap (λ y. lead_by rows room y []) (sym h.2)))
        (λ (h : ((decode given).packets ≡ []) × ((e : LineFault) × (x ≡ unasked e))).
        subst (λ y. Led rows room given (bare y)) (sym h.1.1) (none_led h.1.0 (ap (leads rows room) h.0)))
        f.from

    first_means : Means rows room given (bare x)
    first_means =
        ⊎_elim
        (λ (h : (p : Pkt) × ReadsAs given (p ∷ []) × (x ≡ judged room p)).
        subst (λ y. Means rows room given (bare y)) (sym h.2) (judged_means h.0 h.1 (ap out (sym h.2) ∙ none)))
        (λ (h : ((decode given).packets ≡ []) × ((e : LineFault) × (x ≡ unasked e))). subst (λ y. Means rows room given (bare y)) (sym h.1.1) (none_means h.1.0 h.0))
        f.from

    -- a call that says no more than its first line has its law
    pub first_law : RequestLaw rows room sent given (bare x)
    first_law = law_by rows room given sent (bare x) f.silent first_led first_means

-- What is stored then

text_out : (room : ℕ) (r : Result (List ℕ) ℕ) → text_kept room r ≡ out (judged_text room r)
text_out room (Ok t) = refl
text_out room (Err n) = refl

pub kept_out : (room : ℕ) (p : Pkt) → command_kept room p ≡ out (judged room p)
kept_out room flush = refl
kept_out room delimiter = refl
kept_out room response_end = refl
kept_out room (line l) = text_out room (text_of l)

-- nothing, unless there was a command
pub first_stored : (rows room : ℕ) (sent given : List ℕ) (x : Outcome) → FirstGiven room sent given x → out x ≡ None → stored_in rows room (decode given).packets ≡ request [] []
first_stored rows room sent given x f e =
    ⊎_elim
    (λ (h : (p : Pkt) × ReadsAs given (p ∷ []) × (x ≡ judged room p)).
    ap (λ (d : Decoded). stored_in rows room d.packets) h.1 ∙ ap (behind_kept rows room []) (kept_out room h.0 ∙ ap out (sym h.2) ∙ e))
    (λ (h : ((decode given).packets ≡ []) × ((e : LineFault) × (x ≡ unasked e))). ap (stored_in rows room) h.0)
    f.from
