use Rattle.std.proofs.Common.{◌∙◌}
use Rattle.bench_tracker.proofs.hear.Goals as goal

pub record_calls-requires : goal.record_calls-requires
record_calls-requires g c = let l = c.loop-record in (c.in-Some.ensures.steps.1.1 ∙ l.invariant.0, l.invariant.1)

pub loop-record-preserved : goal.loop-record-preserved
loop-record-preserved g c = (c.in-Some.ensures.steps.0 ∙ c.loop-record.invariant.0, c.record_calls.ensures)
