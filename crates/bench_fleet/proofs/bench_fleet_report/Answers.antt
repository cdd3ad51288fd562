use Rattle.bench_fleet.proofs.Told.{told}
use Rattle.bench_fleet.proofs.bench_fleet_report.Goals as goal

pub returns : goal.returns
returns c = told c.fleet_report.result _ _ _ _ _ _ c.fleet_report.ensures c.unwrap_or.ensures
