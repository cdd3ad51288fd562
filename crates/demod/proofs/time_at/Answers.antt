use Rattle.demod.proofs.time_at.Goals as goal

pub returns : goal.returns
returns c = rw c.count_as_f64.ensures
