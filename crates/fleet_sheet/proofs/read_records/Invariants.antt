use Rattle.std.proofs.Common.{◌≡◌, ℕ, ◌&&◌, ◌++◌, List, map}
use Rattle.std.specs.Slice.Iter.{chunks_exact_rest, chunks_exact_size}
use Rattle.limits.specs.Limits.{record_size}
use Rattle.event_list.specs.Events.{events_of, all_ok, list_ok}
use Rattle.fleet_sheet.specs.Table.{Gathered, devices_in, rows_in}
use Rattle.fleet_sheet.proofs.SheetLaws.{read_to}
use Rattle.fleet_sheet.proofs.read_records.Given as goal

abbrev pub invariant-loop-r : goal.invariant-loop-r
invariant-loop-r l =
    let left = chunks_exact_rest l.r-iterator in
    let done = map (λ r. r.now) l.yielded in record {
      size : chunks_exact_size l.r-iterator ≡ record_size;
      split : done ++ events_of left ≡ events_of l.«records»;
      tested : l.ok && all_ok (events_of left) ≡ l.t.ok && list_ok l.«records»;
      gathered : (ms : List (List ℕ)) → Gathered (devices_in l.initial.table) (rows_in l.initial.table) l.t.devices ms → Gathered (devices_in l.table) (rows_in l.table) l.n (read_to ms done);
    }
