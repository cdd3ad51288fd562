use Rattle.frequency_signal.proofs.floor_ok.Goals as goal

pub returns-in-Some : goal.returns-in-Some
returns-in-Some c = cc
