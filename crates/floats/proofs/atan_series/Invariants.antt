-- The invariant: the terms that are left, from here on, make the whole.
use Rattle.std.proofs.Common.{◌≡◌}
use Rattle.floats.specs.Trig.{atan_terms, atan_from}
use Rattle.floats.proofs.atan_series.Given as goal

abbrev pub invariant-loop-n : goal.invariant-loop-n
invariant-loop-n l = atan_from l.n l.u l.p ≡ atan_from atan_terms l.u l.initial.p
