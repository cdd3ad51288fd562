use lib.Ieee.{binary32}
use Rattle.order.proofs.Places.{all_held, kth_is}
use Rattle.order.proofs.place.F32Ranked.placed.Goals as goal

pub invariant_of-result : goal.invariant_of-result
invariant_of-result c = record { held = all_held binary32 c.args.items.now c.type_inv.items c.requires }

pub returns-clause-kth_is : goal.returns-clause-kth_is
returns-clause-kth_is c = kth_is binary32 c.args.items.now
