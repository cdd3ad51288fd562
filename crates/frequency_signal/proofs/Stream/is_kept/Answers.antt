use Rattle.frequency_signal.proofs.Indices.{kept_is}
use Rattle.std.proofs.Common.{sym}
use Rattle.frequency_signal.proofs.Stream.is_kept.Goals as goal

pub returns : goal.returns
returns c = let a = c.args in sym (kept_is a.self.rate c.args.self.right a.self.n a.at c.args.self.short c.requires)
