-- Every entry is computed and compared.
use mathlib.Core.Path.{refl}
use Rattle.coding.specs.Bits.{digits}
use Rattle.coding.specs.Convolution.{deconvolved, state_after}
use Rattle.conv_tables.specs.Tables.{next_state, tabulated, next_table}
use Rattle.conv_tables.proofs.next.Goals as goal

pub returns : goal.returns
unfolding next_table tabulated next_state deconvolved digits state_after
returns c = refl
