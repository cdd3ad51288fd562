use Rattle.std.proofs.Common.{◌∙◌}
use Rattle.frequency_measure.specs.Measured.{direct}
use Rattle.frequency_measure.proofs.Picked.{then_some-cond}
use Rattle.frequency_measure.proofs.direct_hz.Goals as goal

pub returns-in_err-f : goal.returns-in_err-f
unfolding direct
returns-in_err-f c = rw c.in_err-f.was c.from_residual.ensures

pub returns : goal.returns
unfolding direct
returns c = rw c.in_ok-f.was (rw (c.is_near.ensures, c.round_hz.ensures) at (c.then_some.ensures ∙ then_some-cond _ _))
