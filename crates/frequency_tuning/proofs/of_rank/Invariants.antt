use Rattle.std.proofs.Common.{◌≡◌, drop}
use Rattle.frequency_measure.specs.Measured.{of_rank}
use Rattle.frequency_tuning.proofs.of_rank.Given as goal

abbrev pub invariant-loop-s : goal.invariant-loop-s
invariant-loop-s l = of_rank l.rate l.readings (drop l.s-index l.spans) l.rank ≡ of_rank l.rate l.readings l.spans l.rank
