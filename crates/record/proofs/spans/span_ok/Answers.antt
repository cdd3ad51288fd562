use Rattle.record.specs.Spans.{span_ok}
use Rattle.record.proofs.spans.span_ok.Goals as goal

pub returns : goal.returns
unfolding span_ok
returns c = cc
