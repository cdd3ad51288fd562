use Rattle.std.proofs.Common.{sym}
use Rattle.frequency_lists.proofs.Reach.{reached}
use Rattle.frequency_lists.proofs.within.Goals as goal

pub returns-then-spread-limit : goal.returns-then-spread-limit
returns-then-spread-limit c = sym (reached c.args.readings.now _ c.spread.result c.args.limit c.if-low-limit.true c.if-spread-limit.true c.spread.ensures)
