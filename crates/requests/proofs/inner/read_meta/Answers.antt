use Rattle.std.proofs.Common.{[], refl, rules}
use Rattle.host.proofs.Exits.{told_err}
use Rattle.host.proofs.Peering.{same_peer, same_then, later}
use Rattle.process.proofs.Gathers.{read_falls}
use Rattle.requests.proofs.MetaLoop.{meta_first, meta_room, meta_fault, meta_end, meta_marker, meta_refused, meta_more}
use Rattle.requests.proofs.inner.read_meta.Goals as goal

pub loop-rows-init : goal.loop-rows-init
loop-rows-init g c = (same_peer _, refl, λ status. meta_first _ _ _ _ _ _ _ c.requires c.new-rows.ensures.empty.1)

pub returns-in_err-read_packet : goal.returns-in_err-read_packet
returns-in_err-read_packet g c =
    let i = c.loop-rows.invariant in
    let s = c.in_err-read_packet.ensures.goes in
    record {
      lent = same_then i.0 s.lent;
      reads = λ status.
          meta_fault _ _ _ _ _ _ status _ _ _ _ _ _ (i.2 status) _ _ _ _ c.new-rows.ensures.empty.0 (search rules) _ _ (later i.0 s) (told_err c.from_residual.result c.from_residual.ensures.1);
    }

pub returns-in-Flush : goal.returns-in-Flush
returns-in-Flush g c =
    let i = c.loop-rows.invariant in
    let s = c.in_ok-read_packet.ensures.goes in
    record {
      lent = same_then i.0 s.lent;
      reads = λ status.
          meta_end _ _ _ _ _ _ status _ _ _ _ _ _ (i.2 status) _ _ _ _ c.new-rows.ensures.empty.0 _ (later i.0 s) c.requires (search rules) c.in-Flush.is _ c.len.ensures;
    }

pub store_pair-requires : goal.store_pair-requires
store_pair-requires g c = meta_room _ _ _ _ _ _ _ _ _ _ _ _ (c.loop-rows.invariant.2 [])

pub returns-in_err-at-in-Data : goal.returns-in_err-at-in-Data
returns-in_err-at-in-Data g c =
    let i = c.loop-rows.invariant in
    let s = c.in_ok-read_packet.ensures.goes in
    record {
      lent = same_then i.0 s.lent;
      reads = λ status.
          meta_refused _ _ _ _ _ _ status _ _ _ _ _ _ (i.2 status) _ _ _ _ c.new-rows.ensures.empty.0 _ (later i.0 s) _ c.in-Data.is _ c.front.ensures _ _ _ (search rules)
          c.store_pair.result c.store_pair.ensures.keeps _ c.in_err-at-in-Data.was _ (told_err c.from_residual-in_err-at-in-Data.result c.from_residual-in_err-at-in-Data.ensures.1);
    }

pub loop-rows-smaller : goal.loop-rows-smaller
loop-rows-smaller g c = read_falls (later c.loop-rows.invariant.0 c.in_ok-read_packet.ensures.goes [])

pub loop-rows-preserved : goal.loop-rows-preserved
loop-rows-preserved g c =
    let i = c.loop-rows.invariant in
    let s = c.in_ok-read_packet.ensures.goes in (
      same_then i.0 s.lent,
      search rules,
      λ status.
          meta_more _ _ _ _ _ _ status _ _ _ _ _ _ (i.2 status) _ _ _ c.args.space.now c.new-rows.ensures.empty.0 _ (later i.0 s) _ c.in-Data.is _ c.front.ensures _ _ _ c.in_ok-at-in-Data.at c.in_ok-at-in-Data.ensures.keeps,
    )

pub returns-in_default : goal.returns-in_default
returns-in_default g c =
    let i = c.loop-rows.invariant in
    let s = c.in_ok-read_packet.ensures.goes in
    record {
      lent = same_then i.0 s.lent;
      reads = λ status.
          meta_marker _ _ _ _ _ _ status _ _ _ _ _ _ (i.2 status) _ _ _ _ c.new-rows.ensures.empty.0 _ (later i.0 s) (search rules) c.in_default.not-Flush c.in_default.not-Data;
    }
