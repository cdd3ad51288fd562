use Rattle.std.proofs.Common.{◌≡◌, ℕ, ◌*◌, length, refl, sym, ap, ◌∙◌, arith}
use lib.Seq.{sets, length-sets}
use Rattle.fleet_sheet.specs.Report.{nine}
use Rattle.fleet_sheet.specs.Table.{devices_in, rows_in, no_row, nines}
use Rattle.fleet_sheet.proofs.TableLaws.{map_at}
use Rattle.fleet_sheet.proofs.SheetLaws.{sheet-turn}
use Rattle.fleet_sheet.proofs.put_sheet.Goals as goal

pub loop-p-init : goal.loop-p-init
unfolding nines
loop-p-init c = (refl, refl)

pub loop-p-preserved : goal.loop-p-preserved
loop-p-preserved c =
    let a = c.args in
    let l = c.loop-p in
    let n = c.put_nine in
    let e = ap length n.ensures ∙ length-sets l.rows (9 * l.p) (nine _ _) in
    let t = a.table.now in (
      e ∙ l.invariant.0,
      sheet-turn l.p (devices_in t) (rows_in t) a.rows.now l.rows n.new.rows _ _
          (sym (map_at (λ r. r.device) t l.p _ 0 (omega arith))) (sym (map_at (λ r. r.row) t l.p _ no_row (omega arith))) l.invariant.1 n.ensures,
    )

pub returns : goal.returns
returns c =
    let a = c.args in
    let l = c.loop-p in
    let q : l.p ≡ length a.table.now = omega arith in
    l.invariant.1 ∙ ap (λ (k : ℕ). sets a.rows.now 0 (nines k (devices_in a.table.now) (rows_in a.table.now))) q
