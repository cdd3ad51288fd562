use Rattle.std.proofs.Common.{◌≡◌}
use Rattle.std.specs.Slice.Iter.{chunks_exact_size}
use Rattle.frequency.specs.Lent.{lists}
use Rattle.frequency_grown.specs.Rising.{Single}
use Rattle.bench_tracker.proofs.hear.Given as goal

abbrev pub invariant-loop-record : goal.invariant-loop-record
invariant-loop-record g l = (chunks_exact_size l.record-iterator ≡ 16) × Single l.s.tracker (lists l.readings l.tunings)
