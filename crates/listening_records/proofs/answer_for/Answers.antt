use mathlib.Core.Path.{◌∙◌}
use Rattle.limits.specs.Answer.{said_by}
use Rattle.listening_records.proofs.EmissionLaws.{not_started, answered}
use Rattle.listening_records.proofs.answer_for.Goals as goal

pub returns-then-not-q : goal.returns-then-not-q
unfolding said_by
returns-then-not-q c = not_started _ _ (c.if-not-q.true)

pub returns : goal.returns
returns c =
    c.frame1.ensures.says
    ∙ rw (c.spans_of-spans.ensures, c.earlier.ensures, c.downlink_of.ensures) (answered _ _ (c.if-not-q.false))
