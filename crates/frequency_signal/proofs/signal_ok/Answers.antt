use Rattle.frequency_signal.proofs.signal_ok.Goals as goal

pub returns : goal.returns
returns c = cc
