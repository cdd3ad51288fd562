use lib.ListN.{get_or}
use lib.Dec.{leb}
use Prim.Native.Nat.{ℕ, ◌<◌}
use mathlib.Core.Bool.{false}
use mathlib.Core.Path.{◌≡◌}
use Rattle.frequency_lists.specs.Lists.{ats}
use Rattle.frequency_retain.proofs.leading.Given as goal

abbrev pub invariant-loop-i : goal.invariant-loop-i
invariant-loop-i l = (j : ℕ) → j < l.i → leb l.oldest (get_or (ats l.readings) j 0) ≡ false
