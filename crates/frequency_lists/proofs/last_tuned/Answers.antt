use Rattle.frequency_lists.specs.declared.Tuning.{Tuning}
use Rattle.frequency_lists.proofs.Lasts.{last_none, last_some}
use Rattle.frequency_lists.proofs.last_tuned.Goals as goal

pub returns-in_default : goal.returns-in_default
returns-in_default c = last_none (λ (u : Tuning). u.at) _ 0 c.last.result c.args.tunings.now c.last.ensures.value c.in_default.is

pub returns : goal.returns
returns c = last_some (λ (u : Tuning). u.at) _ 0 c.last.result c.args.tunings.now c.last.ensures.value _ c.in-Some.is
