use Rattle.frequency_grown.proofs.KnownLaws.{grown-known}
use Rattle.frequency_grown.proofs.RisingLaws.{single-grown}
use Rattle.bench_tracker.proofs.read.Goals as goal

pub cfo-requires : goal.cfo-requires
cfo-requires c = grown-known (single-grown c.requires)
