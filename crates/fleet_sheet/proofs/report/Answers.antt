use Rattle.std.proofs.Common.{ap, ◌∙◌, arith}
use borrow.Author.Tests.{not-true, not-false}
use lib.Seq.{sets}
use Rattle.fleet_sheet.proofs.SheetLaws.{nines_are}
use Rattle.fleet_sheet.proofs.ReportLaws.{reports_bad, reports_many, reports_rows}
use Rattle.fleet_sheet.proofs.report.Goals as goal

pub returns-then-not-t : goal.returns-then-not-t
returns-then-not-t c =
    let a = c.args in
    λ ms g. reports_bad a.t.ok ms a.rows.now (not-true _ c.if-not-t.true)

pub returns-then-n-gt-MOST_DEVICES : goal.returns-then-n-gt-MOST_DEVICES
returns-then-n-gt-MOST_DEVICES c =
    let a = c.args in
    λ ms g. reports_many a.t.ok ms a.rows.now (not-false _ c.if-not-t.false) (g.gathered.above c.if-n-gt-MOST_DEVICES.true)

pub returns : goal.returns
returns c =
    let a = c.args in
    let w = c.put_sheet in
    λ ms g.
    let st = g.gathered.under (omega (arith, c.if-n-gt-MOST_DEVICES.false)) in
    reports_rows a.t.ok ms a.rows.now (not-false _ c.if-not-t.false) a.t.devices _ st.many (omega (arith, st.many, st.room))
    (w.ensures ∙ ap (sets a.rows.now 0) (nines_are ms a.table.now a.t.devices st))
