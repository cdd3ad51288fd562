use mir.Syntax.{w32}
use mir.ValLaws.{to_z-of_z}
use Rattle.frame.specs.Control.{celsius}
use Rattle.frame.proofs.ControlLaws.{ten}
use Rattle.frame.proofs.control.celsius_of.Goals as goal

pub returns : goal.returns
unfolding celsius
returns c = cc (ten, to_z-of_z w32 c.signed_below.result (record { sfits = c.signed_below.type_inv }))
