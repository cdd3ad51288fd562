use mathlib.Core.Path.{◌∙◌}
use Rattle.listening.proofs.StepLaws.{taken, made_ok}
use Rattle.listening.proofs.fresh.Goals as goal

pub unwrap-tracker-requires : goal.unwrap-tracker-requires
unwrap-tracker-requires c = made_ok _ (c.new.ensures.number ∙ taken)
