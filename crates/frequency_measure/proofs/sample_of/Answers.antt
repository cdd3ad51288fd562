use Rattle.frequency_measure.proofs.sample_of.Goals as goal

pub returns : goal.returns
returns c = cc
