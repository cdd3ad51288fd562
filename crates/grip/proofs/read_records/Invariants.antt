use Rattle.std.proofs.Common.{◌≡◌, ◌+◌}
use Rattle.std.specs.Slice.Iter.{chunks_exact_rest, chunks_exact_size}
use Rattle.limits.specs.Limits.{record_size}
use Rattle.event_list.specs.Events.{wholes, events_of}
use Rattle.grip.specs.Reading.{looks}
use Rattle.grip.proofs.read_records.Given as goal

abbrev pub invariant-loop-r : goal.invariant-loop-r
invariant-loop-r l =
    let left = chunks_exact_rest l.r-iterator in record {
      size : chunks_exact_size l.r-iterator ≡ record_size;
      count : l.best.count + wholes left ≡ l.initial.best.count + wholes l.records;
      looked : looks l.grip l.within l.best (events_of left) ≡ looks l.grip l.within l.initial.best (events_of l.records);
    }
