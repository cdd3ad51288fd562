-- The invariant: the cluster is still open, and all samples after its last loud one were quiet.
use Rattle.bursts.proofs.ClusterLaws.{OpenAt}
use Rattle.bursts.proofs.last_loud.Given as goal

abbrev pub invariant-loop-i : goal.invariant-loop-i
invariant-loop-i l = OpenAt l.threshold l.gap l.dbm l.first l.last l.i
