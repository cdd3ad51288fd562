use mathlib.Core.Path.{refl}
use Rattle.replay_records.proofs.uplinks.fields_of.Goals as goal

pub returns : goal.returns
returns c = rw (c.get.ensures, c.get-2.ensures, c.bit_of.ensures) refl
