use mathlib.Core.Path.{refl}
use Prim.Native.Nat.{◌-◌}
use native.Mathlib.Omega.{arith}
use lib.ListN.{drop, length-take, length-drop}
use Rattle.limits.proofs.Samples.{all_take, all_drop}
use Rattle.demod.specs.Decode.{segment_of}
use Rattle.demod.proofs.burst_samples.Goals as goal

pub invariant_of-result : goal.invariant_of-result
invariant_of-result c =
    let s = c.args.samples in
    let l = s.dbm.now in
    let from = c.looked_at-seen.result.from in
    let n = c.looked_at-seen.result.to - from in
    record { low = s.low; high = s.high; short = omega (arith, length-take n (drop from l), length-drop from l, s.short); valid = all_take n (drop from l) (all_drop from l s.valid) }

pub returns : goal.returns
unfolding segment_of
returns c = (rw (c.looked_at-seen.ensures.0, c.looked_at-seen.ensures.1) refl, refl)
