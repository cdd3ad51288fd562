use lib.Ieee.{binary64}
use Rattle.order.proofs.Places.{all_held, kth_is}
use Rattle.order.proofs.place.F64Ranked.placed.Goals as goal

pub invariant_of-result : goal.invariant_of-result
invariant_of-result c = record { held = all_held binary64 c.args.items.now c.type_inv.items c.requires }

pub returns-clause-kth_is : goal.returns-clause-kth_is
returns-clause-kth_is c = kth_is binary64 c.args.items.now
