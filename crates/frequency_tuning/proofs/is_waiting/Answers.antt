use Rattle.frequency_tuning.proofs.is_waiting.Goals as goal

pub returns : goal.returns
returns c = cc
