use Rattle.cfo.specs.Cfo.{round_hz}
use Rattle.cfo.proofs.round_hz.Goals as goal

pub returns : goal.returns
unfolding round_hz
returns c = cc
