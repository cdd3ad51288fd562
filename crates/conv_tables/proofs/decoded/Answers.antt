-- Every entry is computed and compared.
use mathlib.Core.Path.{refl}
use Rattle.coding.specs.Bits.{digits, value}
use Rattle.coding.specs.Convolution.{deconvolved}
use Rattle.conv_tables.specs.Tables.{decoded_byte, tabulated, decoded_table}
use Rattle.conv_tables.proofs.decoded.Goals as goal

pub returns : goal.returns
unfolding decoded_table tabulated decoded_byte deconvolved digits value
returns c = refl
