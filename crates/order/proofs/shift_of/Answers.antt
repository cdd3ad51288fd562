use Rattle.std.proofs.Common.{ℕ, ◌*◌, ◌^◌, ◌<◌, ◌≤◌, sym, subst}
use Rattle.order.specs.Search.{bins}
use Rattle.order.proofs.Shifts.{shift-fits}
use Rattle.order.proofs.shift_of.Goals as goal

pub returns : goal.returns
returns c =
    let e = c.ilog2 in
    subst (λ (n : ℕ). (c.args.span < bins * 2 ^ n) × (2 ^ n ≤ c.args.span)) (sym c.saturating_sub.ensures) (shift-fits c.args.span e.result e.ensures.power_le e.ensures.next_power_gt)
