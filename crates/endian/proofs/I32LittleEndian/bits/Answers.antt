use mathlib.Core.Path.{ap, ◌∙◌}
use mir.Syntax.{w32}
use mir.Val.{of_z}
use mir.ValLaws.{to_z-of_z}
use Rattle.endian.proofs.Values.{bits_are}
use Rattle.endian.proofs.I32LittleEndian.bits.Goals as goal

pub returns : goal.returns
returns c = c.from.ensures ∙ c.cast_unsigned.ensures ∙ ap (of_z w32) (to_z-of_z w32 c.args.self c.ranges.self) ∙ bits_are c.args.self
