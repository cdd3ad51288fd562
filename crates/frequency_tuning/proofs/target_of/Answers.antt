use Rattle.frequency_tuning.proofs.target_of.Goals as goal

pub returns-in-Base : goal.returns-in-Base
returns-in-Base c = rw c.in-Base.is c.unless_at.ensures

pub returns-in-Settled : goal.returns-in-Settled
returns-in-Settled c = rw c.in-Settled.is c.unless_at-in-Settled.ensures
