use Rattle.shifts.proofs.Times.{second-le}
use Rattle.shifts.proofs.whole_second.Goals as goal

pub returns : goal.returns
returns c = (c.to_usize_saturating.ensures, rw c.to_usize_saturating.ensures (second-le c.args.time c.requires))
