use Rattle.std.proofs.Common.{◌&&◌, eqb, map, Some, refl, sym, ap, ◌∙◌, arith, Float}
use Rattle.frequency_lists.specs.declared.Reading.{Reading}
use Rattle.frequency_measure.specs.Measured.{measured, inside}
use Rattle.frequency_measure.proofs.Frames.{frame_none, few, found, front-numbers, front-length, framed}
use Rattle.frequency_measure.proofs.frame_of.Goals.{After-gather_frame-m}
use Rattle.frequency_measure.proofs.frame_of.Goals as goal

pub returns-in_err-lo : goal.returns-in_err-lo
returns-in_err-lo c =
    let a = c.args in
    let f = c.of-frame.ensures in
    (c.from_residual.ensures ∙ sym (frame_none _ (sym c.in_err-lo.ensures)) ∙ framed a.rate a.f.time a.f.end a.readings.now _ _ f.first f.past, refl)

pub returns-then-m-lt-FEWEST : goal.returns-then-m-lt-FEWEST
returns-then-m-lt-FEWEST c =
    let a = c.args in
    let f = c.of-frame.ensures in
    let g = c.gather_frame-m in
    (sym (few _ _ a.readings.now c.in_ok-lo.lo a.out.now _ g.result (sym c.in_ok-lo.ensures) g.ensures c.if-m-lt-FEWEST.true) ∙ framed a.rate a.f.time a.f.end a.readings.now _ _ f.first f.past, g.ensures.size)

pub slice_bounds-median_of-end : goal.slice_bounds-median_of-end
slice_bounds-median_of-end c = c.gather_frame-m.ensures.fits

pub median_of-requires : goal.median_of-requires
median_of-requires c =
    let a = c.args in
    let g = c.gather_frame-m in
    let s = c.of-frame.result in
    let n = front-length _ a.out.now _ g.result g.ensures in
    (omega arith, front-numbers (map (λ (x : Reading). inside s.first s.past x.at && eqb x.lo c.in_ok-lo.lo) a.readings.now) a.readings.now a.out.now _ g.result c.requires.numbers g.ensures)

pub returns : goal.returns
returns c =
    let a = c.args in
    let f = c.of-frame.ensures in
    let g = c.gather_frame-m in (
      ap (λ (h : Float). Some (measured h c.in_ok-lo.lo)) c.median_of.ensures
          ∙ sym (found _ _ a.readings.now c.in_ok-lo.lo a.out.now _ g.result (sym c.in_ok-lo.ensures) g.ensures c.if-m-lt-FEWEST.false) ∙ framed a.rate a.f.time a.f.end a.readings.now _ _ f.first f.past,
      g.ensures.size,
    )
