use Rattle.frequency_grown.proofs.KnownLaws.{grown-known}
use Rattle.frequency_grown.proofs.RisingLaws.{single-grown}
use Rattle.bench_tracker.proofs.chosen.Goals as goal

pub next_tuning-requires : goal.next_tuning-requires
next_tuning-requires c = grown-known (single-grown c.requires)
