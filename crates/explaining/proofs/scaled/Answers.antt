use Rattle.explaining.specs.Margins.{scaled}
use Rattle.explaining.proofs.scaled.Goals as goal

pub returns : goal.returns
unfolding scaled
returns c = cc (c.to_usize_saturating.ensures, c.round_half_up.ensures, c.count_as_f64.ensures, c.abs64.ensures)
