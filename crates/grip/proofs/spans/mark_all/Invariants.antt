use Rattle.std.proofs.Common.{◌≡◌, ◌&&◌, ◌≤◌, length, drop}
use Rattle.std.specs.Iterator.Adapters.{enumerate_source, enumerate_count}
use Rattle.std.specs.Slice.Iter.{chunks_exact_rest, chunks_exact_size}
use Rattle.limits.specs.Limits.{record_size}
use Rattle.event_list.specs.Events.{events_of, all_ok, list_ok}
use Rattle.grip.proofs.MarkLaws.{Marked}
use Rattle.grip.proofs.spans.mark_all.Given as goal

abbrev pub invariant-loop-i : goal.invariant-loop-i
invariant-loop-i l =
    let source = enumerate_source l.i-iterator in
    let left = chunks_exact_rest source in
    let n = enumerate_count l.i-iterator in record {
      size : chunks_exact_size source ≡ record_size;
      many : n ≤ length (events_of l.«records»);
      place : events_of left ≡ drop n (events_of l.«records»);
      tested : l.ok && all_ok (events_of left) ≡ list_ok l.«records»;
      marked : Marked l.x (events_of l.«records») n l.marks;
    }
