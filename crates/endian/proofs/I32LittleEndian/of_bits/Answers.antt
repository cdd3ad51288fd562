use mathlib.Core.Path.{◌∙◌}
use mir.Syntax.{w32}
use mir.ValLaws.{to_z-of_z}
use Rattle.endian.proofs.Values.{number_is}
use Rattle.endian.proofs.I32LittleEndian.of_bits.Goals as goal

pub returns : goal.returns
returns c = to_z-of_z w32 c.cast_signed.result (record { sfits = c.cast_signed.type_inv }) ∙ c.cast_signed.ensures ∙ number_is c.args.n
