use mathlib.Core.Path.{sym, ap, ◌∙◌}
use native.Mathlib.Omega.{arith}
use mir.Syntax.{w64}
use mir.ValLaws.{to_z-of_z}
use Rattle.subscription.specs.Charges.{start_ok}
use Rattle.subscription.proofs.DayLaws.{second_is, second_none}
use Rattle.subscription.proofs.second_of.Goals as goal

pub overflow_cast-result : goal.overflow_cast-result
overflow_cast-result c =
    let q = to_z-of_z w64 c.args.z c.ranges.z in
    let h = second_is c.args.z (ap start_ok (sym q) ∙ sym c.start_ok.ensures ∙ c.if-start_ok.true) in
    rw q (h.0, record { fits = omega (arith, h.2) })

pub returns-then-start_ok : goal.returns-then-start_ok
returns-then-start_ok c =
    let q = to_z-of_z w64 c.args.z c.ranges.z in
    let h = second_is c.args.z (ap start_ok (sym q) ∙ sym c.start_ok.ensures ∙ c.if-start_ok.true) in
    rw q (h.1, h.2)

pub returns : goal.returns
returns c =
    let q = to_z-of_z w64 c.args.z c.ranges.z in
    second_none c.args.z (ap start_ok (sym q) ∙ sym c.start_ok.ensures ∙ c.if-start_ok.false)
