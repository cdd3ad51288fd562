use Rattle.std.proofs.Common.{◌≡◌, ◌≤◌, take, sym, ap, ◌∙◌, arith, length-take-le}
use Rattle.clock.specs.Running.{fit_from, points_from, depths_from, clocked}
use Rattle.clock.specs.Bits.{Outcome, outcome, values_of, handed}
use Rattle.clock.proofs.BitLaws.{tells_none, no_samples, samples-few, samples-deep, samples-clock, lost-clock, kept-clock, kept-few, kept-deep, kept-ready}
use Rattle.clock.proofs.bits_of.Goals.{After-new-start, In_ok-c}
use Rattle.clock.proofs.bits_of.Goals as goal

pub returns-then-seg-eq0 : goal.returns-then-seg-eq0
returns-then-seg-eq0 c =
    let a = c.args in
    tells_none _ a.bits.now (no_samples a.samples.dbm.now a.samples.rate c.if-seg-eq0.true)

pub returns-then-n-lt-ENOUGH_DIPS : goal.returns-then-n-lt-ENOUGH_DIPS
returns-then-n-lt-ENOUGH_DIPS c =
    let a = c.args in
    tells_none _ a.bits.now
    (samples-few a.samples.dbm.now a.samples.rate c.level_of-level.result c.f32_to_f64_with_nan.result a.scratch.now c.dips_into-n.new.dips c.dips_into-n.result
    (omega (arith, c.if-seg-eq0.false)) c.level_of-level.ensures c.f32_to_f64_with_nan.ensures c.dips_into-n.ensures.0 c.if-n-lt-ENOUGH_DIPS.true)

-- the clock that is fitted has no more points than there are dips
few : (c : In_ok-c) → c.in_ok-c.c.count ≤ c.dips_into-n.result
few c =
    let a = c.args in
    omega (
      arith,
      kept-few a.samples.dbm.now a.samples.rate c.level_of-level.result c.split_at_mut-points.result.0.now c.split_at_mut-depths.result.0.now c.new-start.result c.in_ok-c.c
          c.fit_clock.new.dips c.fit_clock.new.depths c.new-start.ensures.1 c.in_ok-c.ensures,
      c.split_at_mut-points.ensures.front_len,
    )

-- the outcome, from the clock's start on
started : (c : After-new-start) → let a = c.args in
    let start = c.new-start.result in
    let ds = c.split_at_mut-points.result.0.now in
    let hs = c.split_at_mut-depths.result.0.now in
    outcome a.samples.dbm.now a.samples.rate ≡ clocked a.samples.dbm.now a.samples.rate c.level_of-level.result (points_from start ds) (depths_from start ds hs) (fit_from start ds)
started c =
    let a = c.args in
    let f = c.split_at_mut-front.ensures in
    samples-clock a.samples.dbm.now a.samples.rate c.level_of-level.result c.f32_to_f64_with_nan.result a.scratch.now c.dips_into-n.new.dips c.dips_into-n.result
    (omega (arith, c.if-seg-eq0.false)) c.level_of-level.ensures c.f32_to_f64_with_nan.ensures c.dips_into-n.ensures.0 _ _
    (c.split_at_mut-points.ensures.front ∙ ap (take c.dips_into-n.result) f.front) (c.split_at_mut-depths.ensures.front ∙ ap (take c.dips_into-n.result) f.back)
    c.nominal_of-nominal.result c.anchor_of.result c.new-start.result c.if-n-lt-ENOUGH_DIPS.false c.nominal_of-nominal.ensures c.anchor_of.ensures c.new-start.ensures.0

pub clocked_bits-requires : goal.clocked_bits-requires
clocked_bits-requires c =
    let a = c.args in
    let level = c.level_of-level.result in
    let ds = c.split_at_mut-points.result.0.now in
    let hs = c.split_at_mut-depths.result.0.now in
    let k = c.in_ok-c.c in
    let f = c.split_at_mut-front.ensures in
    let deep = samples-deep a.samples.dbm.now a.samples.rate level c.f32_to_f64_with_nan.result a.scratch.now c.dips_into-n.new.dips c.dips_into-n.result
    (omega (arith, c.if-seg-eq0.false)) c.level_of-level.ensures c.f32_to_f64_with_nan.ensures c.dips_into-n.ensures.0 ds hs
    (c.split_at_mut-points.ensures.front ∙ ap (take c.dips_into-n.result) f.front) (c.split_at_mut-depths.ensures.front ∙ ap (take c.dips_into-n.result) f.back) a.samples.valid in (
      sym (length-take-le k.count c.fit_clock.new.depths (omega (arith, few (goal.at.clocked_bits-requires c).In_ok-c, c.split_at_mut-depths.ensures.front_len))),
      c.requires.0,
      kept-ready a.samples.dbm.now a.samples.rate level ds hs c.new-start.result k c.fit_clock.new.dips c.fit_clock.new.depths c.new-start.ensures.1 c.in_ok-c.ensures,
      kept-deep a.samples.dbm.now a.samples.rate level ds hs c.new-start.result k c.fit_clock.new.dips c.fit_clock.new.depths c.new-start.ensures.1 c.in_ok-c.ensures deep,
    )

pub slice_bounds-clocked_bits-end : goal.slice_bounds-clocked_bits-end
slice_bounds-clocked_bits-end c = omega (arith, few c, c.split_at_mut-points.ensures.front_len)

pub slice_bounds-clocked_bits-end-2 : goal.slice_bounds-clocked_bits-end-2
slice_bounds-clocked_bits-end-2 c = sym (length-take-le c.in_ok-c.c.count c.fit_clock.new.dips (omega (arith, few c, c.split_at_mut-points.ensures.front_len)))

pub slice_bounds-clocked_bits-end-3 : goal.slice_bounds-clocked_bits-end-3
slice_bounds-clocked_bits-end-3 c = omega (arith, few c, c.split_at_mut-depths.ensures.front_len)

pub slice_bounds-clocked_bits-end-4 : goal.slice_bounds-clocked_bits-end-4
slice_bounds-clocked_bits-end-4 c = sym (length-take-le c.in_ok-c.c.count c.fit_clock.new.depths (omega (arith, few c, c.split_at_mut-depths.ensures.front_len)))

pub returns-in_err-c : goal.returns-in_err-c
returns-in_err-c c =
    let a = c.args in
    rw c.from_residual.ensures
    (tells_none _ a.bits.now
    (started (goal.at.returns-in_err-c c).After-new-start
    ∙ lost-clock a.samples.dbm.now a.samples.rate c.level_of-level.result c.split_at_mut-points.result.0.now c.split_at_mut-depths.result.0.now c.new-start.result
    c.fit_clock.new.dips c.fit_clock.new.depths c.in_err-c.ensures))

pub returns : goal.returns
returns c =
    let a = c.args in
    let e = started (goal.at.returns c).After-new-start
    ∙ kept-clock a.samples.dbm.now a.samples.rate c.level_of-level.result c.split_at_mut-points.result.0.now c.split_at_mut-depths.result.0.now c.new-start.result c.in_ok-c.c
    c.fit_clock.new.dips c.fit_clock.new.depths c.new-start.ensures.1 c.in_ok-c.ensures in
    (c.clocked_bits.ensures.0 ∙ sym (ap values_of e), c.clocked_bits.ensures.1 ∙ sym (ap (λ (o : Outcome). handed o a.bits.now) e))
