use Rattle.std.proofs.Common.{◌+◌, ◌-◌, length, ap, ◌∙◌, add-zero, arith}
use Rattle.packetline.specs.Packets.{flush_one}
use Rattle.packetline.specs.Reads.{pkt}
use Rattle.packetline.proofs.Decoding.{next_more, next_fits, at_end, decodes_sent, no_flush}
use Rattle.packetline.proofs.decode.count.Goals as goal

pub overflow_add-flushes : goal.overflow_add-flushes
overflow_add-flushes c = omega (arith, (next_fits c.args.bytes.now _ _ _ _ _ c.loop-line.invariant.2 c.in-Some.ensures.steps).1)

pub loop-line-preserved-in-Flush : goal.loop-line-preserved-in-Flush
loop-line-preserved-in-Flush c = (
  tt,
  tt,
  next_more c.args.bytes.now _ _ _ _ _ _ c.loop-line.invariant.2 c.in-Some.ensures.steps
      (ap (λ x. c.loop-line.flushes + flush_one (pkt x)) c.in-Flush.is),
)

pub loop-line-preserved : goal.loop-line-preserved
loop-line-preserved c = (
  tt,
  tt,
  next_more c.args.bytes.now _ _ _ _ _ _ c.loop-line.invariant.2 c.in-Some.ensures.steps
      (ap (λ n. c.loop-line.flushes + n) (no_flush c.in-Some.line c.in_default-line.not-Flush) ∙ add-zero c.loop-line.flushes),
)

pub returns-clause-counted : goal.returns-clause-counted
returns-clause-counted c =
    let s = c.in_default.ensures.steps in
    at_end c.args.bytes.now _ _ c.loop-line.invariant.2 s.1 (ap (λ xs. length c.args.bytes.now - length xs) (c.rest.ensures ∙ s.0))

pub returns-clause-sent : goal.returns-clause-sent
returns-clause-sent c = decodes_sent c.args.bytes.now
