use mathlib.Core.Path.{refl}
use Rattle.ledger.specs.Ledger.{dbm_of}
use Rattle.receiver_samples.proofs.BufferLaws.{two_is}
use Rattle.receiver_samples.proofs.dbm_of.Goals as goal

pub returns : goal.returns
unfolding dbm_of
returns c = rw two_is refl
