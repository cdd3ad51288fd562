-- The invariant: what was seen is valid just where the first samples of both halves are.
use mathlib.Core.Path.{◌≡◌}
use Rattle.limits.proofs.Pairs.{seen}
use Rattle.limits.proofs.all_dbm.Given as goal

abbrev pub invariant-loop-i : goal.invariant-loop-i
invariant-loop-i l = l.ok ≡ seen l.dbm l.half l.i
