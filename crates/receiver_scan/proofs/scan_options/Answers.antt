use mathlib.Core.Path.{refl}
use lib.Ieee.{of_bits, of_int, round}
use Rattle.receiver_scan.proofs.scan_options.Goals as goal

pub returns : goal.returns
unfolding of_bits of_int round
returns c = refl
