use Rattle.std.proofs.Common.{◌≤◌, [], Ok, sym, ap, ◌∙◌, subst, arith, rules}
use Rattle.host.proofs.Exits.{told_err}
use Rattle.packetline.specs.Packets.{payload_length}
use Rattle.host.proofs.Hearing.{read_none, read_bad, read_plain, read_data, read_cut}
use Rattle.host.proofs.Streams.{streamed}
use Rattle.host.proofs.peer.Peer.read_packet.Goals as goal

pub returns-in_err-fill : goal.returns-in_err-fill
returns-in_err-fill g c =
    let f = c.in_err-fill.ensures in
    let t = read_none _ _ c.args.self.now.work.now _ _ _ _ f.logs _ _ f.goes (told_err c.from_residual.result c.from_residual.ensures.1) in
    record { bound = search rules; goes = record { lent = search rules; talks = t }; stream = streamed (t []) }

pub returns-in_err-packet : goal.returns-in_err-packet
returns-in_err-packet g c =
    let f = c.in_ok-fill.ensures in
    let t = read_bad _ _ c.args.self.now.work.now _ _ _ _ f.logs _ f.goes _ _ _ c.in_err-packet.ensures.value (told_err c.from_residual-in_err-packet.result c.from_residual-in_err-packet.ensures.1) in
    record { bound = search rules; goes = record { lent = search rules; talks = t }; stream = streamed (t []) }

pub slice_bounds-fill-end-in-Data : goal.slice_bounds-fill-end-in-Data
slice_bounds-fill-end-in-Data g c =
    let h : c.in-Data.n ≤ 65516 = subst (λ k. payload_length k ≤ 65516) c.in-Data.is c.in_ok-packet.ensures.bound in
    search rules

pub returns-in_err-fill-2 : goal.returns-in_err-fill-2
returns-in_err-fill-2 g c =
    let small : c.in-Data.n ≤ 65516 = subst (λ k. payload_length k ≤ 65516) c.in-Data.is c.in_ok-packet.ensures.bound in
    let f = c.in_ok-fill.ensures in
    let is = ap (λ k. Ok k) (sym c.in-Data.is) ∙ c.in_ok-packet.ensures.value in
    let s = c.in_err-fill-2.ensures in
    let t = read_cut _ _ c.args.self.now.work.now _ _ _ _ f.logs _ f.goes c.in-Data.n is (omega arith) _ _ _ s.logs _ _ s.goes (told_err c.from_residual-in_err-fill-2.result c.from_residual-in_err-fill-2.ensures.1) in
    record { bound = search rules; goes = record { lent = search rules; talks = t }; stream = streamed (t []) }

pub returns-in_ok-fill-2 : goal.returns-in_ok-fill-2
returns-in_ok-fill-2 g c =
    let small : c.in-Data.n ≤ 65516 = subst (λ k. payload_length k ≤ 65516) c.in-Data.is c.in_ok-packet.ensures.bound in
    let f = c.in_ok-fill.ensures in
    let is = ap (λ k. Ok k) (sym c.in-Data.is) ∙ c.in_ok-packet.ensures.value in
    let s = c.in_ok-fill-2.ensures in
    let t = read_data _ _ c.args.self.now.work.now _ _ _ _ f.logs _ f.goes c.in-Data.n is (omega arith) _ _ _ s.logs _ s.goes in
    record { bound = small; goes = record { lent = search rules; talks = t }; stream = streamed (t []) }

pub returns-in_default : goal.returns-in_default
returns-in_default g c =
    let f = c.in_ok-fill.ensures in
    let t = read_plain _ _ c.args.self.now.work.now _ _ _ _ f.logs _ f.goes _ c.in_ok-packet.ensures.value c.in_default.not-Data in
    record { bound = c.in_ok-packet.ensures.bound; goes = record { lent = search rules; talks = t }; stream = streamed (t []) }
