use mathlib.Core.Path.{◌≡◌}
use Prim.Native.Nat.{◌*◌}
use lib.ListN.{length}
use Rattle.frequency.specs.Lent.{lists}
use Rattle.listening.specs.Hand.{new_listener, Near}
use Rattle.listening.specs.Reads.{Staged}
use Rattle.listening.proofs.run.Given as goal

abbrev pub invariant-loop : goal.invariant-loop
invariant-loop g l =
    Staged l.input l.filled l.listener l.receiver (lists l.readings l.tunings) l.b.samples × Near (65536 * l.counter) new_listener l.listener × (length l.input ≡ 4096) × (length l.out ≡ 33024)
