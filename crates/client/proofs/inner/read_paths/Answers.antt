use Rattle.std.proofs.Common.{[], refl, rules}
use Rattle.host.proofs.Exits.{told_err}
use Rattle.host.proofs.Peering.{same_peer, same_then, later}
use Rattle.process.proofs.Gathers.{read_falls}
use Rattle.client.proofs.ListLoop.{lines_first, lines_room, paths_fault, paths_end, paths_line, paths_marker}
use Rattle.client.proofs.inner.read_paths.Goals as goal

pub loop-rows-init : goal.loop-rows-init
loop-rows-init g c = (same_peer _, refl, λ status. lines_first _ _ _ _ _ _ c.new-rows.ensures.empty.1)

pub returns-in_err-read_packet : goal.returns-in_err-read_packet
returns-in_err-read_packet g c =
    let i = c.loop-rows.invariant in
    let s = c.in_err-read_packet.ensures.goes in
    record {
      lent = same_then i.0 s.lent;
      reads = λ status.
          paths_fault _ _ _ _ _ status c.loop-rows.notes _ _ _ _ _ (i.2 status) _ _ _ _ c.new-rows.ensures.empty.0 (search rules) _ _ (later i.0 s) (told_err c.from_residual.result c.from_residual.ensures.1);
    }

pub returns-in-Flush : goal.returns-in-Flush
returns-in-Flush g c =
    let i = c.loop-rows.invariant in
    let s = c.in_ok-read_packet.ensures.goes in
    record {
      lent = same_then i.0 s.lent;
      reads = λ status.
          paths_end _ _ _ _ _ status c.loop-rows.notes _ _ _ _ _ (i.2 status) _ _ _ (later i.0 s) _ _ c.new-rows.ensures.empty.0 (search rules) c.in-Flush.is _ c.len.ensures;
    }

pub keep-notes-requires : goal.keep-notes-requires
keep-notes-requires g c = lines_room _ _ _ _ _ _ _ _ _ _ _ (c.loop-rows.invariant.2 [])

pub loop-rows-smaller-in-Data : goal.loop-rows-smaller-in-Data
loop-rows-smaller-in-Data g c = read_falls (later c.loop-rows.invariant.0 c.in_ok-read_packet.ensures.goes [])

pub loop-rows-preserved-in-Data : goal.loop-rows-preserved-in-Data
loop-rows-preserved-in-Data g c =
    let i = c.loop-rows.invariant in
    let s = c.in_ok-read_packet.ensures.goes in (
      same_then i.0 s.lent,
      search rules,
      λ status. paths_line _ _ _ _ _ status c.loop-rows.notes _ _ _ _ _ (i.2 status) _ _ _ (later i.0 s) _ c.in-Data.is _ c.front.ensures _ _ _ _ c.keep-notes.ensures.keeps,
    )

pub loop-rows-smaller : goal.loop-rows-smaller
loop-rows-smaller g c = read_falls (later c.loop-rows.invariant.0 c.in_ok-read_packet.ensures.goes [])

pub loop-rows-preserved : goal.loop-rows-preserved
loop-rows-preserved g c =
    let i = c.loop-rows.invariant in
    let s = c.in_ok-read_packet.ensures.goes in (
      same_then i.0 s.lent,
      i.1,
      λ status. paths_marker _ _ _ _ _ status c.loop-rows.notes _ _ _ _ _ (i.2 status) _ _ _ (later i.0 s) c.in_default.not-Flush c.in_default.not-Data,
    )
