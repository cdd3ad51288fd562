use Rattle.std.proofs.Common.{Option, None, Some}
use mathlib.Core.Path.{◌≡◌, refl, sym, ◌∙◌}
use native.Mathlib.Omega.{arith}
use lib.ListN.{length}
use Rattle.bursts.specs.declared.Burst.{Burst}
use Rattle.bursts.specs.Levels.{noise_floor}
use Rattle.bursts.proofs.Rows.{Next, found_next, found_none}
use Rattle.ledger.specs.Scanning.{scan_options}
use Rattle.receiver_scan.proofs.EachLaws.{searched, each_start, each_more, each-end, each-past}
use Rattle.receiver_scan.proofs.take_each.Goals.{In-Some}
use Rattle.receiver_scan.proofs.take_each.Goals as goal

pub measured_floor-floor-requires : goal.measured_floor-floor-requires
measured_floor-floor-requires c = (omega (arith, c.args.held.samples.short, c.args.held.samples.high), c.args.held.samples.valid)

pub loop-at-init : goal.loop-at-init
loop-at-init c =
    let a = c.args in
    (refl, each_start a.held.samples.rate a.held.wait a.held.base a.held.samples.dbm.now a.s.now a.events.now c.requires.1)

pub search_bursts-requires : goal.search_bursts-requires
search_bursts-requires c = (omega (arith, c.args.held.samples.short, c.args.held.samples.high), c.loop-at.invariant.1.inside)

pub returns-in_default : goal.returns-in_default
returns-in_default c =
    let a = c.args in
    let s = c.search_bursts in
    each-end a.held.samples.rate a.held.wait a.held.base a.held.samples.dbm.now a.s.now a.events.now c.loop-at.s c.loop-at.events c.loop-at.at c.loop-at.invariant.1
    (found_none a.held.samples.dbm.now a.held.samples.rate scan_options (noise_floor a.held.samples.dbm.now) c.loop-at.at (sym c.in_default.is ∙ searched a.held.samples.rate a.held.wait a.held.base a.held.samples.dbm.now c.scan_options-options.result c.measured_floor-floor.result s.result c.loop-at.at c.scan_options-options.ensures c.measured_floor-floor.ensures s.ensures))

-- the burst that is found is the next
next : (c : In-Some) → Next c.args.held.samples.dbm.now c.args.held.samples.rate scan_options (noise_floor c.args.held.samples.dbm.now) c.loop-at.at c.in-Some.b
next c =
    let a = c.args in
    let s = c.search_bursts in
    found_next a.held.samples.dbm.now a.held.samples.rate scan_options (noise_floor a.held.samples.dbm.now) c.loop-at.at c.in-Some.b c.loop-at.invariant.1.inside
    (sym c.in-Some.is ∙ searched a.held.samples.rate a.held.wait a.held.base a.held.samples.dbm.now c.scan_options-options.result c.measured_floor-floor.result s.result c.loop-at.at c.scan_options-options.ensures c.measured_floor-floor.ensures s.ensures)

pub take_one-requires : goal.take_one-requires
take_one-requires c =
    let f = next (goal.at.take_one-requires c).In-Some in
    (record { events = omega (arith, c.requires.0.events, c.loop-at.invariant.1.size); scratch = omega (arith, c.requires.0.scratch, c.loop-at.invariant.0) }, omega (arith, f.order, f.inside), f.inside, c.loop-at.invariant.1.within)

pub loop-at-smaller : goal.loop-at-smaller
loop-at-smaller c =
    let f = next (goal.at.loop-at-smaller c).In-Some in
    omega (arith, f.after, f.order, f.inside)

pub loop-at-preserved : goal.loop-at-preserved
loop-at-preserved c =
    let a = c.args in
    let t = c.take_one in
    (t.auto.scratch ∙ c.loop-at.invariant.0, each_more a.held.samples.rate a.held.wait a.held.base a.held.samples.dbm.now a.s.now a.events.now c.loop-at.s c.loop-at.events c.loop-at.at c.loop-at.invariant.1 c.in-Some.b (next (goal.at.loop-at-preserved c).In-Some) t.new.s _ t.auto.events t.ensures)

pub returns : goal.returns
returns c =
    let a = c.args in
    each-past a.held.samples.rate a.held.wait a.held.base a.held.samples.dbm.now a.s.now a.events.now c.loop-at.s c.loop-at.events c.loop-at.at c.loop-at.invariant.1 (omega (arith, c.loop-at-test.false))
