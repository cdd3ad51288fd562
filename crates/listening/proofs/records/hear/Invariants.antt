use mathlib.Core.Path.{◌≡◌}
use lib.ListN.{length}
use Rattle.std.specs.Slice.Iter.{chunks_exact_rest, chunks_exact_size}
use Rattle.frequency.specs.Lent.{lists}
use Rattle.listening.proofs.ReadLaws.{Along}
use Rattle.listening.proofs.records.hear.Given as goal

abbrev pub invariant-loop-bytes : goal.invariant-loop-bytes
invariant-loop-bytes g l =
    (chunks_exact_size l.bytes-iterator ≡ 16) × Along l.«records» (chunks_exact_rest l.bytes-iterator) (length l.yielded) l.initial.l l.initial.receiver (lists l.initial.readings l.initial.tunings) l.initial.b.samples l.l l.receiver (lists l.readings l.tunings) l.b.samples l.initial.out l.out
