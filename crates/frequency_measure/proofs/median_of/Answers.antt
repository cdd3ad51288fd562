use Rattle.std.proofs.Common.{not, arith}
use lib.Ieee.{Float, nan, is_nan}
use Rattle.frequency_lists.proofs.Every.{every_at, told}
use Rattle.frequency_measure.specs.Measured.{median}
use Rattle.frequency_measure.proofs.median_of.Goals as goal

pub select-requires : goal.select-requires
select-requires c = (omega (arith, c.requires.0), λ i h. told (every_at (λ (x : Float). not (is_nan x)) c.args.xs.now nan c.requires.1 i h))

pub returns : goal.returns
unfolding median
returns c = c.select.ensures
