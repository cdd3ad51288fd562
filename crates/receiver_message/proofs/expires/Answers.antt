use mathlib.Core.Path.{refl}
use lib.Ieee.{of_bits, of_int, round}
use Rattle.ledger.specs.Merge.{expires}
use Rattle.receiver_message.proofs.expires.Goals as goal

pub returns : goal.returns
unfolding expires of_bits of_int round
returns c = rw c.three_ranks-complete.ensures refl
