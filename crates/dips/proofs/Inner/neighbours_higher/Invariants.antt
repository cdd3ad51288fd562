-- The invariant: none of those left speaks against the minimum just where none of all does.
use Rattle.std.proofs.Common.{◌≡◌, get_or}
use lib.Seq.{slice}
use lib.Ieee.{nan}
use Rattle.dips.specs.Dips.{lowest_of, neighbours}
use Rattle.dips.proofs.Inner.neighbours_higher.Given as goal

abbrev pub invariant-loop-k : goal.invariant-loop-k
invariant-loop-k l = lowest_of (get_or l.seg l.i nan) l.i l.k (slice l.k l.end l.seg) ≡ neighbours l.half l.seg l.i
