use mir.Syntax.{w32}
use mir.ValLaws.{to_z-of_z}
use Rattle.cfo.specs.Cfo.{reading_hz}
use Rattle.cfo.proofs.Constants.{scale}
use Rattle.cfo.proofs.reading_hz.Goals as goal

pub returns : goal.returns
unfolding reading_hz
returns c = cc (scale, to_z-of_z w32 c.cfo_signed.result (record { sfits = c.cfo_signed.type_inv }))
