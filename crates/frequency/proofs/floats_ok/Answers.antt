use Rattle.frequency.proofs.floats_ok.Goals as goal

pub returns : goal.returns
returns c = cc
