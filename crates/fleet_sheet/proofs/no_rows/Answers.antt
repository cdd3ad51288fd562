use Rattle.std.proofs.Common.{refl, rules}
use Rattle.fleet_sheet.proofs.StandLaws.{held_none}
use Rattle.fleet_sheet.proofs.no_rows.Goals as goal

pub returns : goal.returns
returns c = (refl, λ t e. held_none t _ e (search rules))
