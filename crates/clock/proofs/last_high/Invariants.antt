-- The invariant: all samples from i on are under the limit.
use Rattle.std.proofs.Common.{◌≡◌, ◌-◌, ◌≤◌, length}
use Rattle.clock.specs.Bits.{last_high}
use Rattle.clock.proofs.last_high.Given as goal

abbrev pub invariant-loop-i : goal.invariant-loop-i
invariant-loop-i l = (l.i ≤ length l.seg) × (last_high l.limit l.seg (l.i - 1) ≡ last_high l.limit l.seg (length l.seg - 1))
