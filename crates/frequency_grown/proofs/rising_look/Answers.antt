use Rattle.std.proofs.Common.{ℕ, sym, subst}
use lib.ListN.{take}
use lib.Seq.{length-take-le}
use Rattle.frequency_lists.specs.Lists.{ats}
use Rattle.frequency_retain.specs.Retain.{Leads}
use Rattle.frequency_grown.proofs.RisingLaws.{front-leads}
use Rattle.frequency_grown.proofs.rising_look.Goals as goal

pub slice_bounds-leading-end : goal.slice_bounds-leading-end
slice_bounds-leading-end c = sym (length-take-le c.args.t.now.readings c.args.readings.now c.requires.2)

pub returns : goal.returns
returns c =
    let a = c.args in
    let held = take a.t.now.readings a.readings.now in
    subst (λ (z : ℕ). Leads z c.leading.result (ats held)) c.oldest-low.ensures (front-leads c.oldest-low.result c.leading.result held c.requires.3 c.leading.ensures)
