use Rattle.std.proofs.Common.{ap, ◌∙◌, arith}
use Rattle.std.proofs.lemmas.Result.{err_from_is_err_and}
use Rattle.packetline.specs.Reads.{front_told}
use Rattle.packetline.proofs.Fronts.{read_bad, read_cut, read_whole}
use Rattle.packetline.proofs.decode.streaming.Goals as goal

pub returns-in_err-packet-clause-value : goal.returns-in_err-packet-clause-value
returns-in_err-packet-clause-value c =
    let e = err_from_is_err_and c.from_residual.result c.from_residual.ensures.1 in
    ap (λ r. front_told r c.args.bytes.now) e.1 ∙ read_bad c.args.bytes.now _ _ c.in-Some.ensures.cases _ c.in_err-packet.ensures.value

pub returns-then-bytes-bytes_consumed-clause-value : goal.returns-then-bytes-bytes_consumed-clause-value
returns-then-bytes-bytes_consumed-clause-value c =
    read_cut c.args.bytes.now _ _ c.in-Some.ensures.cases _ c.in_ok-packet.ensures.value (omega (arith, c.payload_length-bytes_consumed.ensures))

pub returns-clause-value : goal.returns-clause-value
returns-clause-value c =
    read_whole c.args.bytes.now _ _ c.in-Some.ensures.cases _ _ _ c.in_ok-packet.ensures.value (omega (arith, c.payload_length-bytes_consumed.ensures)) (omega arith) c.with_payload.ensures
