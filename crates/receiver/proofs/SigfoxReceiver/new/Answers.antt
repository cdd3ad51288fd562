use mathlib.Core.Path.{refl}
use Rattle.receiver.specs.State.{new_state}
use Rattle.receiver.proofs.SigfoxReceiver.new.Goals as goal

pub returns : goal.returns
unfolding new_state
returns c = rw (c.none-starts.ensures, c.none-waiting.ensures) refl
