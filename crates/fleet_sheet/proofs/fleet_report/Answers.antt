use Rattle.std.proofs.Common.{◌≡◌, Bool, ◌&&◌, [], ap, ◌∙◌, arith, rules}
use Rattle.event_list.specs.Events.{list_ok}
use Rattle.fleet_sheet.specs.Report.{fleet_messages}
use Rattle.fleet_sheet.proofs.ReportLaws.{says_short, says_long, says_read}
use Rattle.fleet_sheet.proofs.fleet_report.Goals as goal

pub returns-then-rows-lt-SHEET : goal.returns-then-rows-lt-SHEET
returns-then-rows-lt-SHEET c =
    let a = c.args in
    says_short a.«records».now a.rows.now c.if-rows-lt-SHEET.true

pub returns-then-records-gt-MOST_RECORD_BYTES : goal.returns-then-records-gt-MOST_RECORD_BYTES
returns-then-records-gt-MOST_RECORD_BYTES c =
    let a = c.args in
    says_long a.«records».now a.rows.now (omega (arith, c.if-rows-lt-SHEET.false)) c.if-records-gt-MOST_RECORD_BYTES.true

pub read_records-t-requires : goal.read_records-t-requires
read_records-t-requires c = (
  omega (arith, c.no_records.ensures.0, c.if-records-gt-MOST_RECORD_BYTES.false),
  record { messages = []; held = c.no_rows-table.ensures.1 c.no_records.result c.no_records.ensures.2 },
)

pub report-requires : goal.report-requires
report-requires c = (
  search rules,
  record { messages = fleet_messages c.args.«records».now; held = c.read_records-t.ensures.2 [] (c.no_rows-table.ensures.1 c.no_records.result c.no_records.ensures.2) },
)

pub returns : goal.returns
returns c =
    let a = c.args in
    let w = c.read_records-t in
    let l = a.«records».now in
    let e : w.result.ok ≡ list_ok l = w.ensures.1 ∙ ap (λ (b : Bool). b && list_ok l) c.no_records.ensures.1 in
    says_read l a.rows.now (omega (arith, c.if-rows-lt-SHEET.false)) (omega (arith, c.if-records-gt-MOST_RECORD_BYTES.false)) w.result.ok e c.report.result _
    (c.report.ensures (fleet_messages l) (w.ensures.2 [] (c.no_rows-table.ensures.1 c.no_records.result c.no_records.ensures.2)))
