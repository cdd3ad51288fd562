use Rattle.floats.specs.Trig.{atan}
use Rattle.floats.proofs.Trigs.{zero_is, one_is, four_is, pi_is, two_fifths_is}
use Rattle.floats.proofs.atan64.Goals as goal

pub returns : goal.returns
unfolding atan
returns c = cc (zero_is, one_is, four_is, pi_is, two_fifths_is, c.atan_series.ensures, c.pick.ensures, c.pick-u.ensures)
