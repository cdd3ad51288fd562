use Rattle.frequency_signal.proofs.Indices.{settling_is}
use Rattle.std.proofs.Common.{sym}
use Rattle.frequency_signal.proofs.Pace.is_settling.Goals as goal

pub returns : goal.returns
returns c = let a = c.args in sym (settling_is a.self.rate c.args.self.right a.tuned_at a.at c.requires.0 c.requires.1)
