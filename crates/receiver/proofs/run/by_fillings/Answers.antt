use mathlib.Core.Path.{◌≡◌, ◌∙◌, refl, sym}
use Prim.Native.Nat.{◌+◌, ◌-◌, ◌*◌, ◌≤◌, ◌<◌}
use native.Mathlib.Omega.{arith}
use lib.ListN.{length}
use lib.Seq.{length-take-le}
use Rattle.ledger.specs.Ledger.{push, seconds}
use Rattle.receiver_waiting.specs.declared.Leaving.TheVariants.{CompleteAt}
use Rattle.receiver.specs.Running.{EndsBy}
use Rattle.shifts.specs.Shifts.{schedule, mark_by}
use Rattle.receiver.proofs.FillLaws.{FilledAt, left_le, fill-asks, fill-bounds, fill-turn, fill-still, fill-scanned, scan-asks, shift-asks, shifted_is}
use Rattle.receiver.proofs.RunLaws.{Done, all_in, last_buffer, fill_start, fill_end, ends_within, closable, ends_push}
use Rattle.receiver.proofs.run.by_fillings.Goals.{After-loop-from, After-seconds, After-slice_known-in-loop-from-2-1}
use Rattle.receiver.proofs.run.by_fillings.Goals as goal

-- how far it went
bounds : (c : After-slice_known-in-loop-from-2-1) → (1 ≤ c.fill-n.result) × (c.halve-left.result + c.fill-n.result ≤ 12 * c.args.s.now.rate)
    × (c.loop-from.from + c.fill-n.result ≤ length c.args.dbm.now) × (c.halve-left.result ≤ c.loop-from.held)
    × (c.loop-from.unscanned + c.fill-n.result < 13 * c.args.s.now.rate)
bounds c =
    let l = c.loop-from in
    fill-bounds c.args.s.now.rate c.args.dbm.now (all_in c.args.s.now c.args.samples.now c.args.events.now c.args.scratch.now c.args.dbm.now) (last_buffer c.args.s.now c.args.samples.now c.args.events.now c.args.scratch.now c.args.dbm.now) c.args.events.now l.samples l.events l.held l.base l.unscanned l.t l.from c.requires.lowest c.requires.accepted.samples l.invariant.3 (omega (arith, c.loop-from-test.true)) c.halve-left.result c.fill-n.result c.halve-left.ensures.0 c.fill-n.ensures.0

-- what it made
filled : (c : After-slice_known-in-loop-from-2-1) → FilledAt c.args.s.now.rate c.args.dbm.now (all_in c.args.s.now c.args.samples.now c.args.events.now c.args.scratch.now c.args.dbm.now) (last_buffer c.args.s.now c.args.samples.now c.args.events.now c.args.scratch.now c.args.dbm.now) c.args.events.now c.fill-n.new.samples c.loop-from.events (c.halve-left.result + c.fill-n.result)
    (c.loop-from.base + (c.loop-from.held - c.halve-left.result)) (c.loop-from.unscanned + c.fill-n.result) (record { starts = c.shift.new.s; waiting = c.loop-from.t.waiting; count = c.loop-from.t.count }) (c.loop-from.from + c.fill-n.result)
filled c =
    let l = c.loop-from in
    fill-turn c.args.s.now.rate c.args.dbm.now (all_in c.args.s.now c.args.samples.now c.args.events.now c.args.scratch.now c.args.dbm.now) (last_buffer c.args.s.now c.args.samples.now c.args.events.now c.args.scratch.now c.args.dbm.now) c.args.events.now l.samples l.events l.held l.base l.unscanned l.t l.from c.requires.lowest c.requires.accepted.samples l.invariant.3 (omega (arith, c.loop-from-test.true)) c.halve-left.result c.fill-n.result c.halve-left.new.samples c.fill-n.new.samples c.shift.new.s c.halve-left.ensures.0 c.halve-left.ensures.1 c.fill-n.ensures.0 c.fill-n.ensures.1
    (shifted_is l.t.starts c.shift.new.s (l.held - c.halve-left.result) l.invariant.3.within.starts c.shift.ensures)

-- the buffer is as long as it was
sized : (c : After-slice_known-in-loop-from-2-1) → length c.fill-n.new.samples ≡ length c.args.samples.now
sized c = c.fill-n.auto.samples ∙ c.halve-left.auto.samples ∙ c.loop-from.invariant.0

pub loop-from-init : goal.loop-from-init
loop-from-init c = let a = c.args in (refl, refl, refl, rw c.begin-t.ensures (fill_start a.s.now a.samples.now a.events.now a.scratch.now a.dbm.now c.requires))

pub halve-left-requires : goal.halve-left-requires
halve-left-requires c = c.loop-from.invariant.3.places

pub overflow_sub-dropped : goal.overflow_sub-dropped
overflow_sub-dropped c = rw c.halve-left.ensures.0 (left_le c.args.s.now.rate c.loop-from.held)

pub overflow_add-base : goal.overflow_add-base
overflow_add-base c = let m = c.loop-from.invariant.3 in omega (arith, m.stream, m.inside)

pub shift-requires : goal.shift-requires
shift-requires c =
    let l = c.loop-from in
    let h = c.halve-left in
    shift-asks c.args.s.now.rate c.args.dbm.now (all_in c.args.s.now c.args.samples.now c.args.events.now c.args.scratch.now c.args.dbm.now) (last_buffer c.args.s.now c.args.samples.now c.args.events.now c.args.scratch.now c.args.dbm.now) c.args.events.now l.samples l.events l.held l.base l.unscanned l.t l.from c.requires.lowest c.requires.accepted.samples l.invariant.3 (omega (arith, c.loop-from-test.true)) c.requires.highest c.requires.accepted.size h.result h.ensures.0

pub fill-n-requires : goal.fill-n-requires
fill-n-requires c =
    let l = c.loop-from in
    let h = c.halve-left in
    let g = fill-asks c.args.s.now.rate c.args.dbm.now (all_in c.args.s.now c.args.samples.now c.args.events.now c.args.scratch.now c.args.dbm.now) (last_buffer c.args.s.now c.args.samples.now c.args.events.now c.args.scratch.now c.args.dbm.now) c.args.events.now l.samples l.events l.held l.base l.unscanned l.t l.from c.requires.lowest c.requires.accepted.samples l.invariant.3 (omega (arith, c.loop-from-test.true)) in
    (rw h.ensures.1 g.0, rw h.ensures.0 g.1, g.2)

pub overflow_add-held : goal.overflow_add-held
overflow_add-held c = omega (arith, bounds c, c.requires.highest)

pub overflow_add-unscanned : goal.overflow_add-unscanned
overflow_add-unscanned c = omega (arith, bounds c, c.requires.highest)

pub overflow_add-from : goal.overflow_add-from
overflow_add-from c = omega (arith, bounds c)

pub overflow_cast-rate : goal.overflow_cast-rate
overflow_cast-rate c = omega (arith, c.requires.highest)

pub overflow_mul-unscanned : goal.overflow_mul-unscanned
overflow_mul-unscanned c = omega (arith, bounds (goal.at.overflow_mul-unscanned c).After-slice_known-in-loop-from-2-1, c.requires.highest)

pub slice_bounds-scan_tail-end : goal.slice_bounds-scan_tail-end
slice_bounds-scan_tail-end c = let m = filled (goal.at.slice_bounds-scan_tail-end c).After-slice_known-in-loop-from-2-1 in omega (arith, m.fits, m.places)

pub slice_bounds-scan_tail-end-then-rate-unscanned : goal.slice_bounds-scan_tail-end-then-rate-unscanned
slice_bounds-scan_tail-end-then-rate-unscanned c =
    let m = filled (goal.at.slice_bounds-scan_tail-end-then-rate-unscanned c).After-slice_known-in-loop-from-2-1 in
    sym (length-take-le (c.halve-left.result + c.fill-n.result) c.fill-n.new.samples (omega (arith, m.fits, m.places)))

pub scan_tail-requires : goal.scan_tail-requires
scan_tail-requires c =
    scan-asks _ _ _ _ _ _ _ _ _ _ _ _ (filled (goal.at.scan_tail-requires c).After-slice_known-in-loop-from-2-1) _ c.requires.lowest c.requires.highest (omega (arith, c.requires.numbers, c.loop-from.invariant.2))

pub loop-from-smaller-then-rate-unscanned : goal.loop-from-smaller-then-rate-unscanned
loop-from-smaller-then-rate-unscanned c = omega (arith, bounds (goal.at.loop-from-smaller-then-rate-unscanned c).After-slice_known-in-loop-from-2-1, c.loop-from-test.true)

pub loop-from-preserved-then-rate-unscanned : goal.loop-from-preserved-then-rate-unscanned
loop-from-preserved-then-rate-unscanned c =
    let l = c.loop-from in
    let t = c.scan_tail in
    (sized (goal.at.loop-from-preserved-then-rate-unscanned c).After-slice_known-in-loop-from-2-1, t.auto.events ∙ l.invariant.1, t.auto.scratch ∙ l.invariant.2, fill-scanned _ _ _ _ _ _ _ _ _ _ _ _ (filled (goal.at.loop-from-preserved-then-rate-unscanned c).After-slice_known-in-loop-from-2-1) (omega (arith, c.if-rate-unscanned.true)) c.requires.lowest t.new.t _ t.auto.events t.ensures)

pub loop-from-smaller : goal.loop-from-smaller
loop-from-smaller c = omega (arith, bounds (goal.at.loop-from-smaller c).After-slice_known-in-loop-from-2-1, c.loop-from-test.true)

pub loop-from-preserved : goal.loop-from-preserved
loop-from-preserved c =
    let l = c.loop-from in
    (sized (goal.at.loop-from-preserved c).After-slice_known-in-loop-from-2-1, l.invariant.1, l.invariant.2, fill-still _ _ _ _ _ _ _ _ _ _ _ _ (filled (goal.at.loop-from-preserved c).After-slice_known-in-loop-from-2-1) (omega (arith, c.if-rate-unscanned.false)))

-- what the scans left
done : (c : After-loop-from) → Done c.args.s.now (push c.args.dbm.now) c.args.samples.now c.args.events.now
    c.loop-from.held c.loop-from.base c.loop-from.unscanned c.loop-from.t c.loop-from.samples c.loop-from.events
done c =
    let a = c.args in
    let l = c.loop-from in
    fill_end a.s.now a.samples.now a.events.now a.scratch.now a.dbm.now l.samples l.events l.held l.base l.unscanned l.t l.from l.invariant.3 (omega (arith, c.loop-from-test.false))

pub seconds-requires : goal.seconds-requires
seconds-requires c =
    let a = c.args in
    ends_within a.s.now (push a.dbm.now) a.samples.now _ a.events.now _ a.scratch.now _ _ _ _ c.requires (done (goal.at.seconds-requires c).After-loop-from)

-- its messages leave by its time
leaving : (c : After-seconds) → EndsBy (push c.args.dbm.now) (CompleteAt c.seconds.result) (seconds c.args.s.now.rate (c.loop-from.base + c.loop-from.held))
leaving c = rw c.seconds.ensures (ends_push c.args.dbm.now _)

pub finish-requires : goal.finish-requires
finish-requires c =
    let a = c.args in
    let d = goal.at.finish-requires c in
    closable (mark_by (schedule a.given.now)) a.s.now (push a.dbm.now) a.samples.now _ a.events.now _ a.scratch.now _ _ _ _ _ c.requires (done d.After-loop-from) (leaving d.After-seconds) c.loop-from.invariant.1

pub returns : goal.returns
returns c =
    let a = c.args in
    let g = goal.at.returns c in
    let d = done g.After-loop-from in
    record {
      ended = c.finish.ensures (push a.dbm.now) (all_in a.s.now a.samples.now a.events.now a.scratch.now a.dbm.now) a.events.now (leaving g.After-seconds) d.under;
      samples = d.samples;
    }
