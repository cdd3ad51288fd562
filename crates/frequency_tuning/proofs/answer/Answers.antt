use Rattle.frequency_tuning.proofs.answer.Goals as goal

pub returns-in_err-f : goal.returns-in_err-f
returns-in_err-f c = rw c.in_err-f.was c.from_residual.ensures

pub returns : goal.returns
returns c = rw c.in_ok-f.was c.unless_at.ensures
