use mir.Syntax.{w64}
use mir.ValLaws.{to_z-of_z}
use Rattle.bench_charges.specs.Cents.{bench_plan}
use Rattle.bench_charges.proofs.Told.{told}
use Rattle.bench_charges.proofs.bench_charges.Goals as goal

pub returns : goal.returns
returns c =
    let w = c.charges in
    told w.result bench_plan _ _ c.args.«records».now _ w.ensures (to_z-of_z w64 c.args.month_start c.ranges.month_start) c.unwrap_or.ensures
