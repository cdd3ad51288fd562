use mathlib.Core.Path.{refl, sym, ap, ◌∙◌}
use Prim.Native.Nat.{ℕ, ◌-◌, ◌/◌}
use Rattle.std.specs.Prelude.{Some}
use native.Mathlib.Omega.{arith}
use Rattle.subscription.specs.Charges.{day_s}
use Rattle.subscription.proofs.DayLaws.{between_is, begun, day-is}
use Rattle.subscription.proofs.days.day_of.Goals as goal

pub returns-then-not-within : goal.returns-then-not-within
returns-then-not-within c =
    let e = between_is c.args.start c.args.time _ _ c.count_as_f64-first.ensures c.count_as_f64-end.ensures in
    rw (sym e, c.if-not-within.true) refl

pub overflow_sub-result : goal.overflow_sub-result
overflow_sub-result c =
    let e = between_is c.args.start c.args.time _ _ c.count_as_f64-first.ensures c.count_as_f64-end.ensures in
    omega (arith, c.to_usize_saturating.ensures, begun c.args.start c.args.time c.requires (sym e ∙ c.if-not-within.false))

pub returns : goal.returns
returns c =
    let e = between_is c.args.start c.args.time _ _ c.count_as_f64-first.ensures c.count_as_f64-end.ensures in
    let r = ap (λ (n : ℕ). (n - c.args.start) / day_s) c.to_usize_saturating.ensures ∙ sym (day-is c.args.start c.args.time c.requires (sym e ∙ c.if-not-within.false)) in
    rw (sym e, c.if-not-within.false) (ap Some r)
