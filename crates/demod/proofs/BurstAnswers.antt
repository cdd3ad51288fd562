-- A burst to which cause 9 does not apply. Assumes nothing.
use mathlib.Core.Path.{◌≡◌}
use mathlib.Core.Bool.{true, not, ◌&&◌}
use Prim.Native.Nat.{◌≤◌}
use lib.Dec.{leb}
use lib.Ieee.{Float, is_nan}
use borrow.Author.Tests.{leb-true}
use Rattle.limits.specs.Limits.{longest_stream}
use Rattle.limits.specs.Samples.{is_dbm, time_ok}
use Rattle.limits.proofs.Samples.{and_left, and_right}
use Rattle.bursts.specs.declared.Burst.{Burst}
use Rattle.demod.specs.Decode.{burst_ok}

module _ (b : Burst) (t0 : Float) where
  pub bound : burst_ok b t0 ≡ true → (b.start ≤ longest_stream) × (b.end ≤ longest_stream)
  unfolding burst_ok
  bound e =
      let rest = time_ok t0 && (is_dbm b.floor_dbm && not (is_nan b.peak_dbm)) in
      let more = and_right (leb b.start longest_stream) (leb b.end longest_stream && rest) e in
      (leb-true b.start longest_stream (and_left (leb b.start longest_stream) (leb b.end longest_stream && rest) e), leb-true b.end longest_stream (and_left (leb b.end longest_stream) rest more))
