use mathlib.Core.Path.{refl, ap, ◌∙◌}
use Prim.Native.Nat.{◌+◌, ◌*◌, ◌≤◌}
use native.Mathlib.Omega.{arith}
use lib.ListN.{length, length-drop}
use Rattle.limits.specs.Limits.{record_size}
use Rattle.bursts.specs.Bursts.{default_options, first_from}
use Rattle.bursts.specs.Found.{bursts_from}
use Rattle.bursts.specs.declared.BurstOptions.{BurstOptions}
use Rattle.bursts.proofs.Rows.{Next, found_next, found_none}
use Rattle.demod.proofs.CaptureLaws.{capture-start, capture-end, capture-past, capture-room, capture-more, adds, few_adds}
use Rattle.demod.proofs.capture.Goals.{In-Some}
use Rattle.demod.proofs.capture.Goals as goal

pub loop-at-init : goal.loop-at-init
loop-at-init c =
    let a = c.args in
    (refl, capture-start a.samples.dbm.now a.samples.rate a.t0 a.floor a.events.now a.samples.low a.samples.high a.samples.short)

pub search_bursts-requires : goal.search_bursts-requires
search_bursts-requires c =
    (omega (arith, c.args.samples.high, c.args.samples.short), c.loop-at.invariant.1.inside)

pub returns-in-None : goal.returns-in-None
returns-in-None c =
    let a = c.args in
    capture-end a.samples.dbm.now a.samples.rate a.t0 a.floor a.events.now c.loop-at.at c.loop-at.n c.loop-at.events c.loop-at.invariant.1 (found_none a.samples.dbm.now a.samples.rate default_options a.floor c.loop-at.at (c.in-None.ensures ∙ ap (λ (o : BurstOptions). first_from 0 (bursts_from a.samples.dbm.now a.samples.rate o a.floor c.loop-at.at)) c.new-options.ensures))

-- the burst found is the next one
next : (c : In-Some) → Next c.args.samples.dbm.now c.args.samples.rate default_options c.args.floor c.loop-at.at c.in-Some.b
next c =
    let a = c.args in
    let b = c.in-Some.b in
    found_next a.samples.dbm.now a.samples.rate default_options a.floor c.loop-at.at b c.loop-at.invariant.1.inside
    (c.in-Some.ensures ∙ ap (λ (o : BurstOptions). first_from 0 (bursts_from a.samples.dbm.now a.samples.rate o a.floor c.loop-at.at)) c.new-options.ensures)

-- its record has room
place : (c : In-Some) → record_size * (c.loop-at.n + 1) ≤ length c.loop-at.events
place c =
    let a = c.args in
    omega (
      arith,
      capture-room a.samples.dbm.now a.samples.rate a.t0 a.floor a.events.now c.loop-at.at c.loop-at.n c.loop-at.events c.loop-at.invariant.1 c.in-Some.b (next c),
      c.requires.1,
      c.loop-at.invariant.1.size,
    )

pub decode_within-d-requires : goal.decode_within-d-requires
decode_within-d-requires c =
    let f = next (goal.at.decode_within-d-requires c).In-Some in
    let s = c.args.samples in
    (omega (arith, f.order, f.inside, s.high, s.short), omega (arith, f.inside, s.high, s.short), omega (arith, c.requires.0, c.loop-at.invariant.0))

pub put_decoded-n-requires : goal.put_decoded-n-requires
put_decoded-n-requires c = omega (arith, length-drop (record_size * c.loop-at.n) c.loop-at.events, place (goal.at.put_decoded-n-requires c).In-Some)

pub overflow_add-n : goal.overflow_add-n
overflow_add-n c =
    let a = c.args in
    let p = c.put_decoded-n in
    record { fits = omega (arith, c.loop-at.invariant.1.few, few_adds a.samples.dbm.now a.samples.rate a.t0 c.in-Some.b c.loop-at.n c.loop-at.events c.decode_within-d.result p.result p.ensures.0) }

pub loop-at-smaller : goal.loop-at-smaller
loop-at-smaller c =
    let f = next (goal.at.loop-at-smaller c).In-Some in
    omega (arith, f.after, f.order, f.inside)

pub loop-at-preserved : goal.loop-at-preserved
loop-at-preserved c =
    let a = c.args in
    let b = c.in-Some.b in
    let l = c.loop-at in
    let s = (goal.at.loop-at-preserved c).In-Some in
    let p = c.put_decoded-n in
    let d = adds a.samples.dbm.now a.samples.rate a.t0 b l.n l.events c.decode_within-d.result p.result p.new.events c.decode_within-d.ensures (place s) p.ensures.0 p.ensures.1 in
    (c.decode_within-d.auto.scratch ∙ l.invariant.0, capture-more a.samples.dbm.now a.samples.rate a.t0 a.floor a.events.now l.at l.n l.events l.invariant.1 b (next s) (l.n + p.result) _ d.0 d.1 (place s))

pub returns : goal.returns
returns c =
    let a = c.args in
    capture-past a.samples.dbm.now a.samples.rate a.t0 a.floor a.events.now c.loop-at.at c.loop-at.n c.loop-at.events c.loop-at.invariant.1 (omega (arith, c.loop-at-test.false))
