use mathlib.Core.Path.{sym}
use Rattle.frame.proofs.SpliceLaws.{length-spliced}
use Rattle.frame.proofs.splices.Spliced.len.Goals as goal

pub returns : goal.returns
returns c = sym (length-spliced c.args.self)
