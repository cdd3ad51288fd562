use Rattle.std.proofs.Common.{◌≡◌, ◌&&◌, ◌+◌, length}
use Rattle.std.specs.Slice.Iter.{chunks_exact_rest, chunks_exact_size}
use Rattle.limits.specs.Limits.{record_size}
use Rattle.event_list.specs.Events.{wholes, events_of, messages_of, all_ok, list_ok}
use Rattle.subscription.specs.Charges.{all_in_month}
use Rattle.subscription.specs.Counting.{tallied, Few}
use Rattle.subscription.proofs.read_records.Given as goal

abbrev pub invariant-loop-r : goal.invariant-loop-r
invariant-loop-r l =
    let left = chunks_exact_rest l.r-iterator in record {
      size : chunks_exact_size l.r-iterator ≡ record_size;
      count : length l.yielded + wholes left ≡ wholes l.«records»;
      tested : l.ok && all_ok (events_of left) ≡ l.t.ok && list_ok l.«records»;
      inside : l.within && all_in_month l.start (messages_of (events_of left)) ≡ l.t.within && all_in_month l.start (messages_of (events_of l.«records»));
      tally : tallied l.start l.counts (events_of left) ≡ tallied l.start l.initial.counts (events_of l.«records»);
      few : Few l.counts (l.t.«records» + length l.yielded);
    }
