use Rattle.std.proofs.Common.{arith}
use Rattle.frequency_grown.proofs.RisingLaws.{after_samples, after_cfo}
use Rattle.bench_tracker.proofs.heard.Goals as goal

pub returns-in_err-sampled : goal.returns-in_err-sampled
returns-in_err-sampled c = after_samples _ _ c.requires.1 c.sampled.ensures

pub read-requires : goal.read-requires
read-requires c = after_samples _ _ c.requires.1 c.sampled.ensures

pub returns : goal.returns
returns c = after_cfo _ _ (omega arith) (after_samples _ _ c.requires.1 c.sampled.ensures) c.read.ensures
