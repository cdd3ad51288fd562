use Rattle.bench_grip.proofs.Counted.{counted}
use Rattle.bench_grip.proofs.bench_on_air.Goals as goal

pub returns : goal.returns
returns c = counted c.on_air.result _ _ _ _ _ _ c.on_air.ensures c.unwrap_or.ensures
