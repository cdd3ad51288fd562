-- The invariant: those written and those left are all the records.
use mathlib.Core.Path.{◌≡◌}
use Prim.Native.Nat.{◌-◌}
use lib.ListN.{length}
use Rattle.demod.proofs.CaptureLaws.{CaptureAt}
use Rattle.demod.proofs.capture.Given as goal

abbrev pub invariant-loop-at : goal.invariant-loop-at
invariant-loop-at l = (length l.scratch ≡ length l.initial.scratch) × CaptureAt l.dbm l.samples.rate l.t0 l.floor l.initial.events l.at l.n l.events

abbrev pub decreases-loop-at : goal.decreases-loop-at
decreases-loop-at l = length l.dbm - l.at
