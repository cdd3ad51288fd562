use Rattle.std.proofs.Common.{Bool, not, ◌&&◌, take, sym, ap, ◌∙◌, arith}
use Rattle.std.proofs.lemmas.List.{take_all, length-map}
use Rattle.std.proofs.lemmas.List.Folds.{list_all_more}
use lib.Ieee.{is_nan}
use Rattle.frequency_lists.specs.declared.Reading.{Reading}
use Rattle.frequency_lists.specs.Lists.{ats, all_numbers}
use Rattle.frequency_lists.proofs.Gather.{map_at}
use Rattle.frequency_lists.proofs.Reach.{reach_more}
use Rattle.frequency_lists.proofs.look_part.Goals as goal

pub loop-x-preserved : goal.loop-x-preserved
loop-x-preserved c =
    let w = c.wrapping_sub_u64-bits in
    let h = c.is_number-here in
    let l = c.args.readings.now in
    let i = c.loop-x.x-index in
    let e = map_at (λ (x : Reading). x.at) l i _ 0 c.loop-x-test.true in (
      reach_more (ats l) c.args.low c.loop-x.bits w.result i (omega arith) (omega arith) (w.ensures.value ∙ sym e) c.loop-x.invariant.0,
      ap (λ (b : Bool). b && h.result) c.loop-x.invariant.1 ∙ ap (λ (b : Bool). all_numbers (take i l) && b) h.ensures ∙ sym (list_all_more (λ (x : Reading). not (is_nan x.hz)) l i _ c.loop-x-test.true),
    )

pub returns : goal.returns
returns c =
    let l = c.args.readings.now in
    let n = length-map l (λ (x : Reading). x.at) in
    (λ j h. c.loop-x.invariant.0 j (omega arith), c.loop-x.invariant.1 ∙ ap all_numbers (take_all c.loop-x.x-index l (omega arith)))
