-- Each talk of each call keeps what holds of a record and its process's story.
use Rattle.std.proofs.Common.{◌≡◌, ℕ, ◌+◌, Bool, true, false, not, ◌&&◌, List, [], ◌∷◌, ◌++◌, Some, None, Ok, Err, codes, Result, sym, refl, ap, ◌∙◌, arith}
use Rattle.std.proofs.lemmas.List.{append_assoc, append-nil}
use Rattle.std.proofs.lemmas.Bool.{and_parts}
use Rattle.std.specs.Fmt.{digits}
use Rattle.packetline.specs.Packets.{Pkt, Decoded, decode, packet, all_sendable, flushes_of}
use Rattle.host.specs.Worlds.{Pipe, live}
use Rattle.host.specs.Talk.{Event, bytes_given, Later, Wire, wire}
use Rattle.process.proofs.Passes.{decode_append}
use Rattle.handshake.specs.Handshakes.{hello, desired, Shaken}
use Rattle.client.specs.Requests.{content_packets}
use Rattle.client.specs.Listings.{list_request, listing, named_in}
use Rattle.client.specs.Results.{read_piece}
use Rattle.records.specs.declared.key.Key.{Key}
use Rattle.records.specs.declared.operation.Operation.{Operation}
use Rattle.records.specs.declared.operation.Operation.TheVariants.{Clean, Smudge}
use Rattle.records.specs.declared.record.Record.{Record}
use Rattle.rules.specs.Names.{desired_names, can_do, can_delay}
use Rattle.records.specs.Limits.{is_path}
use Rattle.rules.specs.Calls.{Asked, Call, apply, fetch, list, read, asks_within, may_delay}
use Rattle.rules.specs.Answers.{fault}
use Rattle.rules.specs.Steps.{asked_lines, request_for, exchange, after_fault, after_exchange, delayed_if, never_delayed, after_listing, counted, after_piece, result_lost, newcomer_record, greeting}
use Rattle.rules.specs.Stories.{Story, all_given, one_if, has_named, names_before, flushes_before, aborted, asks_for, stray_sends}
use Rattle.rules.proofs.Kept.{Always, weaken, join, Takes, AllTake, Steady, exchange_kept, handshake_kept}
use Rattle.rules.proofs.Steps.{FateGood, VerdictGood, TalkGood, ApplyGood, GreetGood, Keeps}
use Rattle.rules.proofs.Talks.{nothing, Cut, Told, exchange_told, listing_told, Pieced, piece_told, Greeted, MaybeGreeted, greeting_told}
use Rattle.rules.proofs.Limits.{apply_sendable, fetch_sendable, apply_flushes, fetch_flushes}
use Rattle.rules.proofs.Standing.{begun, Good, start_flow, Ready, Firm, applying, fetching, exchange_fault, exchange_status, delayed_good, passed_good, listing_fault, listing_status, read_fault, piece_good}

all_take : (J : Wire → Type 0) → ((b : List ℕ) → Takes J b) → (ps : List Pkt) → AllTake J ps
all_take J h [] = tt
all_take J h (p ∷ ps) = (h (packet p), all_take J h ps)

and_false : (b : Bool) → (b && false) ≡ false
and_false true = refl
and_false false = refl

-- what an apply keeps
module _ (r : Record) (h : Story) (key : Key) (op : Operation) (asked : Asked) where
  abbrev Firmly : Wire → Type 0
  Firmly v = Firm r h (apply key op asked) v.events

  firm_steady : Steady Firmly
  firm_steady = record {
    gives = λ b rest v w f. record {
      naming = λ o t x. ap (λ xs. has_named o (all_given h ++ xs)) (append_assoc (bytes_given v.events) b x) ∙ f.naming o t (b ++ x);
      stray_none = f.stray_none;
    };
    notes = λ s v f. record { naming = f.naming; stray_none = f.stray_none };
    refuses = λ b v f. record { naming = f.naming; stray_none = f.stray_none };
  }

  firm_takes : can_do op r.capabilities ≡ true → aborted op h ≡ false → (b : List ℕ) → Takes Firmly b
  firm_takes t u b v o f = record {
    naming = f.naming;
    stray_none =
        let named : has_named op (all_given h ++ bytes_given v.events) ≡ true = ap (λ xs. has_named op (all_given h ++ xs)) (sym (append-nil (bytes_given v.events))) ∙ f.naming op t [] in
        ap (λ z. one_if (asks_for op b && not (z && not (aborted op h))) + stray_sends op v.events h) named
        ∙ ap (λ z. one_if (asks_for op b && not (not z)) + stray_sends op v.events h) u
        ∙ ap (λ z. one_if z + stray_sends op v.events h) (and_false (asks_for op b))
        ∙ (let z : stray_sends op v.events h ≡ 0 = f.stray_none in omega arith);
  }

  module _ (n c : ℕ) (v : Wire) (within : asks_within asked ≡ true) (g : Ready r h (apply key op asked) n c v.events) (f : Firm r h (apply key op asked) v.events) where
    delays : Bool
    delays = may_delay asked.delay && can_delay r.capabilities

    abbrev Lines : Bool → List Pkt
    Lines d = request_for op asked.rela_path (asked_lines asked d)

    apply_goes : (d : Bool) → can_do op r.capabilities ≡ true
        → TalkGood Good r h (apply key op asked) (exchange (Lines d) asked.content v) (λ s _. after_exchange r.process op r.capabilities.mask (delayed_if d r.capabilities.mask) s) (after_fault r.capabilities.mask)
    apply_goes d can =
        weaken (λ s u. Told n (g.said ++ (Lines d ++ content_packets asked.content)) s u.events × Firm r h (apply key op asked) u.events)
        (λ s u. VerdictGood Good r h (apply key op asked) u (after_exchange r.process op r.capabilities.mask (delayed_if d r.capabilities.mask) s))
        (λ y u. Cut n u.events × Firm r h (apply key op asked) u.events) (λ y u. FateGood Good r h (apply key op asked) u.events (fault y) (after_fault r.capabilities.mask y))
        (exchange (Lines d) asked.content v)
        (join (λ s u. Told n (g.said ++ (Lines d ++ content_packets asked.content)) s u.events) (λ s u. Firm r h (apply key op asked) u.events) (λ y u. Cut n u.events) (λ y u. Firm r h (apply key op asked) u.events)
        (exchange (Lines d) asked.content v) (exchange_told n g.heard g.said (Lines d) asked.content v g.sofar g.ends)
        (exchange_kept Firmly firm_steady (Lines d) asked.content (all_take Firmly (firm_takes can (g.unaborted op can)) (Lines d)) (all_take Firmly (firm_takes can (g.unaborted op can)) (content_packets asked.content)) v f))
        (λ s u p.
        exchange_status r h op (apply key op asked) n c v.events g (applying key op asked h) (Lines d ++ content_packets asked.content) (apply_sendable op asked d within) (apply_flushes op asked d) u.events p.1 r.process
        (delayed_if d r.capabilities.mask)
        (λ i t. delayed_good r h op (apply key op asked) n c v.events g (applying key op asked h) (Lines d ++ content_packets asked.content) (apply_sendable op asked d within) (apply_flushes op asked d) u.events p.1 d i t)
        s p.0)
        (λ y u p.
        exchange_fault r h op (apply key op asked) n c v.events g (applying key op asked h) (Lines d ++ content_packets asked.content) (apply_sendable op asked d within) (apply_flushes op asked d) u.events p.1 y p.0)

    apply_good : ApplyGood Good r h key op asked v
    apply_good = (λ can. apply_goes (may_delay asked.delay && can_delay r.capabilities) can, λ e. passed_good r h key op asked n c v.events g f)

-- a known process that is not reading
before_later : (key : Key) (op : Operation) (asked : Asked) (h : Story) → begun h ≡ true → flushes_before (apply key op asked) h ≡ 0
before_later key op asked [] t = let z : ◌≡◌ {A = ℕ} 0 1 = cc in absurd (omega arith)
before_later key op asked (e ∷ h) t = refl

known_ready : (r : Record) (h : Story) (k : Call) → Good r h → r.reading ≡ None → flushes_before k h ≡ 0 → Ready r h k 0 2 []
known_ready r h k g idle b = record {
  idle = sym g.same_reading ∙ idle;
  same_reading = g.same_reading;
  unaborted = g.unaborted;
  no_stray = g.no_stray;
  flow = g.flow;
  total = refl;
  before = b;
  heard = [];
  said = [];
  sofar = nothing;
  ends = record { count = refl; over = λ rest. refl };
  said_count = refl;
  said_sendable = refl;
}

known_applies : (r : Record) (h : Story) (key : Key) (op : Operation) (asked : Asked) (q : Pipe) (l : Later) → asks_within asked ≡ true → Good r h → r.reading ≡ None
    → ApplyGood Good r h key op asked (wire (live q) l [])
known_applies r h key op asked q l within g idle =
    apply_good r h key op asked 0 2 (wire (live q) l []) within (known_ready r h (apply key op asked) g idle (before_later key op asked h g.has_begun))
    (record { naming = λ o t x. g.naming o t x; stray_none = refl })

fetch_goes : (r : Record) (h : Story) (key : Key) (op : Operation) (path : List ℕ) (q : Pipe) (l : Later) → is_path path ≡ true → Good r h → r.reading ≡ None
    → TalkGood Good r h (fetch key op path) (exchange (request_for op path []) [] (wire (live q) l [])) (λ s _. after_exchange r.process op r.capabilities.mask never_delayed s) (after_fault r.capabilities.mask)
unfolding known_ready
fetch_goes r h key op path q l within g idle =
    let v : Wire = wire (live q) l [] in
    let lines : List Pkt = request_for op path [] in
    let firm : (es : List Event) → Firm r h (fetch key op path) es = λ es. record { naming = λ o t x. g.naming o t (bytes_given es ++ x); stray_none = refl } in
    weaken (λ s u. Told 0 (lines ++ content_packets []) s u.events) (λ s u. VerdictGood Good r h (fetch key op path) u (after_exchange r.process op r.capabilities.mask never_delayed s)) (λ y u. Cut 0 u.events)
    (λ y u. FateGood Good r h (fetch key op path) u.events (fault y) (after_fault r.capabilities.mask y)) (exchange lines [] v)
    (exchange_told 0 [] [] lines [] v nothing (record { count = refl; over = λ rest. refl }))
    (λ s u p.
    exchange_status r h op (fetch key op path) 0 2 [] (known_ready r h (fetch key op path) g idle refl) (fetching key op path h) (lines ++ content_packets []) (fetch_sendable op path within) (fetch_flushes op path) u.events
    (firm u.events) r.process never_delayed (λ i t. tt) s p)
    (λ y u p.
    exchange_fault r h op (fetch key op path) 0 2 [] (known_ready r h (fetch key op path) g idle refl) (fetching key op path h) (lines ++ content_packets []) (fetch_sendable op path within) (fetch_flushes op path) u.events
    (firm u.events) y p)

list_goes : (r : Record) (h : Story) (key : Key) (rows room : ℕ) (q : Pipe) (l : Later) → Good r h → r.reading ≡ None
    → TalkGood Good r h (list key rows room) (listing (wire (live q) l [])) (λ s v. after_listing r.capabilities.mask (counted rows room (named_in (bytes_given v.events))) s) (after_fault r.capabilities.mask)
list_goes r h key rows room q l g idle =
    weaken (λ s u. Told 1 list_request s u.events) (λ s u. VerdictGood Good r h (list key rows room) u (after_listing r.capabilities.mask (counted rows room (named_in (bytes_given u.events))) s)) (λ y u. Cut 1 u.events)
    (λ y u. FateGood Good r h (list key rows room) u.events (fault y) (after_fault r.capabilities.mask y)) (listing (wire (live q) l [])) (listing_told (wire (live q) l []) refl)
    (λ s u p. listing_status r h g idle key rows room u.events (counted rows room (named_in (bytes_given u.events))) s p)
    (λ y u p. listing_fault r h g idle key rows room u.events y)

read_goes : (r : Record) (h : Story) (p : ℕ) (op : Operation) (q : Pipe) (l : Later) → Good r h → r.reading ≡ Some op
    → TalkGood Good r h (read p) (read_piece (wire (live q) l [])) (λ x _. after_piece op r.capabilities.mask x) (result_lost r.capabilities.mask)
read_goes r h p op q l g reading =
    weaken (λ x u. Pieced x u.events) (λ x u. VerdictGood Good r h (read p) u (after_piece op r.capabilities.mask x)) (λ y u. Cut 1 u.events)
    (λ y u. FateGood Good r h (read p) u.events (fault y) (result_lost r.capabilities.mask y)) (read_piece (wire (live q) l [])) (piece_told (wire (live q) l []) refl)
    (λ x u t. piece_good r h op g reading p u.events x t)
    (λ y u t. read_fault r h op g reading p u.events y t)

-- a process that has just been met

said_flushes : flushes_of (hello (codes "git-filter") (2 ∷ []) ++ desired desired_names) ≡ 2
unfolding desired_names
said_flushes = refl

said_sendable : all_sendable (hello (codes "git-filter") (2 ∷ []) ++ desired desired_names) ≡ true
unfolding desired_names digits
said_sendable = refl

fresh_ready : (key : Key) (p : ℕ) (x : Shaken) (op : Operation) (asked : Asked) (es : List Event) → Greeted x es → Ready (newcomer_record key p x.version x.mask) [] (apply key op asked) 2 0 es
fresh_ready key p x op asked es g = record {
  idle = refl;
  same_reading = refl;
  unaborted = λ o t. refl;
  no_stray = refl;
  flow = λ _. start_flow;
  total = refl;
  before = refl;
  heard = g.heard;
  said = hello (codes "git-filter") (2 ∷ []) ++ desired desired_names;
  sofar = g.sofar;
  ends = g.ends;
  said_count = said_flushes;
  said_sendable = said_sendable;
}

fresh_firm : (key : Key) (p : ℕ) (x : Shaken) (op : Operation) (asked : Asked) (es : List Event) → Greeted x es → stray_sends op es [] ≡ 0 → Firm (newcomer_record key p x.version x.mask) [] (apply key op asked) es
fresh_firm key p x op asked es g s = record {
  naming = λ o t rest. ap (λ (d : Decoded). names_before o 2 d.packets) (decode_append (bytes_given es) rest g.heard g.sofar.heard) ∙ g.naming o t (decode rest).packets;
  stray_none = s;
}

-- no packet of a greeting asks for an operation
abbrev Unstray : Operation → Wire → Type 0
Unstray op v = stray_sends op v.events [] ≡ 0

unstray_steady : (op : Operation) → Steady (Unstray op)
unstray_steady op = record { gives = λ b rest v w e. e; notes = λ s v e. e; refuses = λ b v e. e }

other_takes : (op : Operation) (b : List ℕ) → asks_for op b ≡ false → Takes (Unstray op) b
other_takes op b e v o z = ap (λ t. one_if (t && not (has_named op ([] ++ bytes_given v.events) && not false)) + stray_sends op v.events []) e ∙ (let y : stray_sends op v.events [] ≡ 0 = z in omega arith)

abbrev none_asks : Operation → List Pkt → Bool
none_asks op [] = true
none_asks op (p ∷ ps) = not (asks_for op (packet p)) && none_asks op ps

not_true : (b : Bool) → not b ≡ true → b ≡ false
not_true true e = let z : ◌≡◌ {A = ℕ} 0 1 = cc in absurd (omega arith)
not_true false e = refl

none_takes : (op : Operation) (ps : List Pkt) → none_asks op ps ≡ true → AllTake (Unstray op) ps
none_takes op [] e = tt
none_takes op (p ∷ ps) e =
    let h = and_parts (not (asks_for op (packet p))) (none_asks op ps) e in
    (other_takes op (packet p) (not_true (asks_for op (packet p)) h.0), none_takes op ps h.1)

hello_takes : (op : Operation) → AllTake (Unstray op) (hello (codes "git-filter") (2 ∷ []))
unfolding digits
hello_takes Clean = none_takes Clean (hello (codes "git-filter") (2 ∷ [])) refl
hello_takes Smudge = none_takes Smudge (hello (codes "git-filter") (2 ∷ [])) refl

desired_takes : (op : Operation) → AllTake (Unstray op) (desired desired_names)
unfolding desired_names
desired_takes Clean = none_takes Clean (desired desired_names) refl
desired_takes Smudge = none_takes Smudge (desired desired_names) refl

greet_good : (key : Key) (p : ℕ) (op : Operation) (asked : Asked) → asks_within asked ≡ true → (x : Result Shaken ℕ) (u : Wire) → MaybeGreeted x u.events → stray_sends op u.events [] ≡ 0 → GreetGood Good key p op asked x u
greet_good key p op asked within (Ok x) u g s =
    apply_good (newcomer_record key p x.version x.mask) [] key op asked 2 0 u within (fresh_ready key p x op asked u.events g) (fresh_firm key p x op asked u.events g s)
greet_good key p op asked within (Err n) u g s = tt

greets : (key : Key) (p : ℕ) (op : Operation) (asked : Asked) (q : Pipe) (l : Later) → asks_within asked ≡ true → Always (GreetGood Good key p op asked) (λ f v. Unit {0}) (greeting (wire (live q) l []))
greets key p op asked q l within =
    weaken (λ x u. MaybeGreeted x u.events × Unstray op u) (GreetGood Good key p op asked) (λ f u. Cut 1 u.events × Unstray op u) (λ f u. Unit {0}) (greeting (wire (live q) l []))
    (join (λ x u. MaybeGreeted x u.events) (λ x u. Unstray op u) (λ f u. Cut 1 u.events) (λ f u. Unstray op u) (greeting (wire (live q) l [])) (greeting_told (wire (live q) l []) refl)
    (handshake_kept (Unstray op) (unstray_steady op) (codes "git-filter") (2 ∷ []) desired_names (hello_takes op) (desired_takes op) (wire (live q) l []) refl))
    (λ x u t. greet_good key p op asked within x u t.0 t.1)
    (λ f u t. tt)

pub good_keeps : Keeps Good
good_keeps = record { applies = known_applies; greets = greets; fetches = fetch_goes; lists = list_goes; reads = read_goes }
