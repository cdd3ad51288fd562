use mathlib.Core.Path.{◌∙◌}
use native.Mathlib.Omega.{arith}
use Rattle.listening.proofs.StepLaws.{first_single, taken, made_ok}
use Rattle.listening.proofs.stepping.begin.Goals as goal

pub unwrap-l-requires : goal.unwrap-l-requires
unwrap-l-requires c = made_ok _ (c.new.ensures.number ∙ taken)

pub returns-clause-single : goal.returns-clause-single
returns-clause-single c =
    let t = rw c.unwrap-l.ensures at c.new.ensures.value in
    λ m g. first_single _ _ m (omega arith) t
