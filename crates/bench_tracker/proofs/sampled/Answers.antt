use Rattle.frequency_grown.proofs.KnownLaws.{grown-known}
use Rattle.frequency_grown.proofs.RisingLaws.{single-grown, single-rises}
use Rattle.bench_tracker.proofs.sampled.Goals as goal

pub samples_rising-requires : goal.samples_rising-requires
samples_rising-requires c = let g = c.requires in (grown-known (single-grown g), single-rises g)
