use Rattle.driver.proofs.Launching.{is_free_by, no_place, not_started, ready, not_met}
use Rattle.driver.proofs.state.State.launch_process.Goals as goal

pub returns-then-is_full : goal.returns-then-is_full
returns-then-is_full g c = no_place c.args.self.now.records.room (c.is_full.ensures.0 c.if-is_full.true)

pub returns-in-Err : goal.returns-in-Err
returns-in-Err g c =
    not_started c.as_bytes.result.now c.as_bytes.ensures.value (is_free_by c.args.self.now.records.places c.args.self.now.records.room c.is_full.ensures.1 c.if-is_full.false) c.in-Err.why c.in-Err.ensures.goes c.in-Err.ensures.logs

pub returns-in-Ok-greet : goal.returns-in-Ok-greet
returns-in-Ok-greet g c =
    ready c.as_bytes.result.now c.as_bytes.ensures.value (is_free_by c.args.self.now.records.places c.args.self.now.records.room c.is_full.ensures.1 c.if-is_full.false) c.in-Ok.ensures.goes c.in-Ok.ensures.logs c.in-Ok-greet.agreed
    c.in-Ok-greet.ensures

pub returns-in-Err-greet : goal.returns-in-Err-greet
returns-in-Err-greet g c =
    not_met c.as_bytes.result.now c.as_bytes.ensures.value (is_free_by c.args.self.now.records.places c.args.self.now.records.room c.is_full.ensures.1 c.if-is_full.false) c.in-Ok.ensures.goes c.in-Ok.ensures.logs c.in-Err-greet.why
    c.in-Err-greet.ensures c.end.ensures.goes c.end.ensures.logs
