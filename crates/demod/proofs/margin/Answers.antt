use mathlib.Core.Path.{sym}
use native.Mathlib.Omega.{arith}
use Rattle.rates.proofs.Rates.{pad_is}
use Rattle.demod.proofs.margin.Goals as goal

pub returns : goal.returns
returns c = (sym (pad_is c.args.rate c.requires.0 c.requires.1), omega arith)
