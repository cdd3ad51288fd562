-- The invariant: those written and those left are all the dips, and each took the room of its half window.
use Rattle.std.proofs.Common.{◌-◌, ◌≤◌, length}
use Rattle.dips.specs.Numbers.{most_dips}
use Rattle.dips.specs.Dips.{found_in}
use Rattle.dips.proofs.DipLaws.{StoredAt}
use Rattle.dips.proofs.dips_into.Given as goal

abbrev pub invariant-loop-i : goal.invariant-loop-i
invariant-loop-i l = (1 ≤ l.i) × (l.i ≤ 49000) × (l.n ≤ most_dips) × StoredAt l.level l.windows.side l.windows.half l.seg (found_in l.seg l.samples.rate l.level) l.initial.dips l.n l.i l.dips

abbrev pub decreases-loop-i : goal.decreases-loop-i
decreases-loop-i l = length l.seg - l.i
