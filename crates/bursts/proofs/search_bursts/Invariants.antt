-- The invariant: the clusters from here on have the answer of those from `at` on.
use Rattle.std.proofs.Common.{◌≡◌, ◌-◌, ◌≤◌, length}
use Rattle.bursts.specs.Bursts.{first_from}
use Rattle.bursts.specs.Found.{bursts_from}
use Rattle.bursts.proofs.SearchLaws.{rest}
use Rattle.bursts.proofs.search_bursts.Given as goal

abbrev pub invariant-loop-i : goal.invariant-loop-i
invariant-loop-i l = (l.i ≤ length l.dbm) × (rest l.dbm l.rate l.options l.floor l.from l.threshold l.gap l.i ≡ first_from l.from (bursts_from l.dbm l.rate l.options l.floor l.at))

abbrev pub decreases-loop-i : goal.decreases-loop-i
decreases-loop-i l = length l.dbm - l.i
