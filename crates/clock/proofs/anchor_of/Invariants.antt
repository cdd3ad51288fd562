-- The invariant: the sums of what is left, from s and c on, are the whole's.
use Rattle.std.proofs.Common.{◌≡◌}
use lib.Seq.{slice}
use Rattle.clock.specs.Clock.{sum_from}
use Rattle.clock.proofs.ClockLaws.{sine_of, cosine_of}
use Rattle.clock.proofs.anchor_of.Given as goal

abbrev pub invariant-loop-d : goal.invariant-loop-d
invariant-loop-d l =
    (sum_from (sine_of l.nominal l.d0) l.s (slice l.d-index l.end l.dips) ≡ sum_from (sine_of l.nominal l.d0) l.initial.s (slice 0 l.end l.dips))
    × (sum_from (cosine_of l.nominal l.d0) l.c (slice l.d-index l.end l.dips) ≡ sum_from (cosine_of l.nominal l.d0) l.initial.c (slice 0 l.end l.dips))
