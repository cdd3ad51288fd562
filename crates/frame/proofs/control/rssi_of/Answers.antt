use mathlib.Core.Path.{◌∙◌}
use mir.Syntax.{w32}
use mir.ValLaws.{to_z-of_z}
use Rattle.frame.proofs.ControlLaws.{rssi-low, rssi-high}
use Rattle.frame.proofs.control.rssi_of.Goals as goal

pub returns-then-b-lt128 : goal.returns-then-b-lt128
returns-then-b-lt128 c = to_z-of_z w32 c.difference.result (record { sfits = c.difference.type_inv }) ∙ c.difference.ensures ∙ rssi-low c.args.b c.if-b-lt128.true

pub returns : goal.returns
returns c = to_z-of_z w32 c.difference-2.result (record { sfits = c.difference-2.type_inv }) ∙ c.difference-2.ensures ∙ rssi-high c.args.b c.if-b-lt128.false
