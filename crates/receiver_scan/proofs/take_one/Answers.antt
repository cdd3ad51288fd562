use mathlib.Core.Path.{sym, ◌∙◌}
use native.Mathlib.Omega.{arith}
use Rattle.receiver_scan.proofs.TakeLaws.{room_fits, does-full, does_not, does-take}
use Rattle.receiver_scan.proofs.take_one.Goals as goal

pub returns-then-not-has_room : goal.returns-then-not-has_room
returns-then-not-has_room c =
    let a = c.args in
    let n = c.has_room.ensures.places in
    does-full a.held.samples.dbm.now a.held.base a.s.now a.events.now c.requires.3 n.0 n.1 a.held.samples.rate a.held.wait a.burst (sym c.has_room.ensures.fits ∙ c.if-not-has_room.true)

pub takes-requires : goal.takes-requires
takes-requires c =
    (c.requires.3.starts, omega (arith, c.args.held.samples.short, c.args.held.samples.high, c.requires.1), omega (arith, c.args.held.samples.short, c.args.held.waits, c.args.held.samples.high, c.requires.2))

pub returns-else-takes : goal.returns-else-takes
returns-else-takes c =
    let a = c.args in
    let n = c.has_room.ensures.places in
    does_not a.held.samples.dbm.now a.held.base a.s.now a.events.now c.requires.3 n.0 n.1 a.held.samples.rate a.held.wait a.burst (sym c.has_room.ensures.fits ∙ c.if-not-has_room.false)
    (sym c.takes.ensures ∙ c.if-takes.false)

pub take_burst-requires : goal.take_burst-requires
take_burst-requires c =
    let s = c.args.s.now in
    let r = room_fits s.starts.count s.waiting.count s.count (sym c.has_room.ensures.fits ∙ c.if-not-has_room.false) in
    (c.requires.0, c.requires.1, c.requires.2, r.0, r.1, r.2)

pub returns-then-takes : goal.returns-then-takes
returns-then-takes c =
    let a = c.args in
    let n = c.has_room.ensures.places in
    does-take a.held.samples.dbm.now a.held.base a.s.now a.events.now c.requires.3 n.0 n.1 a.held.samples.rate a.held.wait a.burst (sym c.has_room.ensures.fits ∙ c.if-not-has_room.false)
    (sym c.takes.ensures ∙ c.if-takes.true) c.take_burst.new.s _ c.take_burst.ensures
