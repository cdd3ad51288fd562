use Rattle.frequency.proofs.Ordered.{ordered_of}
use Rattle.frequency.specs.Lent.{lists}
use native.Mathlib.Omega.{arith}
use Rattle.frequency_grown.proofs.samples_rising.Goals as goal

pub rising_look-lead-requires : goal.rising_look-lead-requires
rising_look-lead-requires c =
    let a = c.args in
    let o = ordered_of a.t.now (lists a.readings.now a.tunings.now) c.requires.0.order in
    (o.t.signals.stream, omega (arith, c.well_formed.1.0.1), o.r.places, c.requires.1)

pub hear-requires : goal.hear-requires
hear-requires c = (c.requires.0, c.rising_look-lead.ensures)

pub returns : goal.returns
returns c = c.hear.ensures
