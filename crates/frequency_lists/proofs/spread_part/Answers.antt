use Rattle.std.proofs.Common.{◌∙◌, sym, arith}
use Rattle.frequency_lists.specs.Lists.{ats}
use Rattle.frequency_lists.specs.declared.Reading.{Reading}
use Rattle.frequency_lists.proofs.Gather.{map_at}
use Rattle.frequency_lists.proofs.Reach.{reach_more}
use Rattle.frequency_lists.proofs.spread_part.Goals as goal

pub loop-x-preserved : goal.loop-x-preserved
loop-x-preserved c =
    let w = c.wrapping_sub_u64-bits in
    let e = map_at (λ (x : Reading). x.at) c.args.readings.now c.loop-x.x-index _ 0 c.loop-x-test.true in
    reach_more (ats c.args.readings.now) c.args.low c.loop-x.bits w.result c.loop-x.x-index (omega arith) (omega arith) (w.ensures.value ∙ sym e) c.loop-x.invariant
