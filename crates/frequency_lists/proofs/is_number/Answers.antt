use Rattle.frequency_lists.proofs.Every.{eq_self}
use Rattle.frequency_lists.proofs.is_number.Goals as goal

pub returns : goal.returns
returns c = eq_self c.args.x
