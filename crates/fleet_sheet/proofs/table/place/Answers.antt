use Rattle.std.proofs.Common.{sym, ◌∙◌}
use Rattle.fleet_sheet.proofs.PlaceLaws.{there_place}
use Rattle.fleet_sheet.proofs.table.place.Goals as goal

pub returns-then-is_there : goal.returns-then-is_there
returns-then-is_there c =
    let a = c.args in
    there_place a.d c.from-hint.result a.table.now c.requires (sym c.is_there.ensures ∙ c.if-is_there.true)
