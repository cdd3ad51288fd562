use Rattle.record.specs.Spans.{spans_ok}
use Rattle.limits.proofs.Samples.{and_true}
use Rattle.record.proofs.spans.spans_ok.Goals as goal

pub returns : goal.returns
unfolding spans_ok
returns c = cc (and_true c.place_ok.result)
