use Rattle.std.proofs.Common.{◌≡◌, length}
use lib.Seq.{sets}
use Rattle.fleet_sheet.specs.Table.{devices_in, rows_in, nines}
use Rattle.fleet_sheet.proofs.put_sheet.Given as goal

abbrev pub invariant-loop-p : goal.invariant-loop-p
invariant-loop-p l = (length l.rows ≡ length l.initial.rows) × (l.rows ≡ sets l.initial.rows 0 (nines l.p (devices_in l.table) (rows_in l.table)))
