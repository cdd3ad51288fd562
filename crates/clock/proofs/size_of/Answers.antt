use Rattle.clock.specs.Clock.{size_of}
use Rattle.clock.proofs.size_of.Goals as goal

pub returns : goal.returns
unfolding size_of
returns c = cc (c.to_usize_saturating.ensures, c.abs64.ensures)
