use Rattle.cfo.proofs.Constants.{one, two, four, eight}
use Rattle.cfo.proofs.interp.Goals as goal

pub returns : goal.returns
returns c = cc (one, two, four, eight)
