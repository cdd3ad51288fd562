use Rattle.std.proofs.Common.{◌+◌, ◌-◌, ◌^◌, min, ap, ap₂, ◌∙◌, arith, pow_pos}
use Rattle.order.proofs.Cut.{part_is}
use Rattle.order.proofs.Shifts.{shl_kept, one_kept}
use Rattle.order.proofs.part_of.Goals as goal

pub overflow_sub-width : goal.overflow_sub-width
overflow_sub-width c = let a = c.args in omega (arith, one_kept a.shift 64 c.requires.0, pow_pos a.shift)

pub returns : goal.returns
returns c =
    let a = c.args in
    let kept = shl_kept a.b.at a.shift (2 ^ 64) (omega (arith, c.requires.1, c.requires.2)) in
    part_is a.r a.b (2 ^ a.shift) _ _ (ap (λ (n : _). a.r.lo + n) kept) (c.min.ensures ∙ ap₂ (λ (m n : _). min (a.r.span - m) (n - 1)) kept (one_kept a.shift 64 c.requires.0))
