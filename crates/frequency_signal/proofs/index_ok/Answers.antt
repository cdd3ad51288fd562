use Rattle.std.proofs.Common.{sym, ap}
use Rattle.frequency_signal.specs.Order.{index_ok}
use Rattle.frequency_signal.proofs.index_ok.Goals as goal

pub returns-in-Some : goal.returns-in-Some
returns-in-Some c = sym (ap (index_ok c.args.n) c.in-Some.is)
