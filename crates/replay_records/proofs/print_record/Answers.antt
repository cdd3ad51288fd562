use Rattle.std.proofs.Common.{sym, arith, length-take-le}
use Rattle.replay_records.proofs.print_record.Goals as goal

pub slice_bounds-print_bytes-end-2 : goal.slice_bounds-print_bytes-end-2
slice_bounds-print_bytes-end-2 g c = sym (length-take-le _ _ (omega (arith, c.without_signs.auto.record, c.requires)))
