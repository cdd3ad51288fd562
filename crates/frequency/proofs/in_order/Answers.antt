use Rattle.frequency.proofs.in_order.Goals as goal

pub returns : goal.returns
returns c = cc
