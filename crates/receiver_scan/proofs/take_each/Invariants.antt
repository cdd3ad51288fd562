-- The invariant: what is left to be done is what was to be done, less the bursts passed.
use mathlib.Core.Path.{◌≡◌}
use Prim.Native.Nat.{◌-◌}
use lib.ListN.{length}
use Rattle.receiver_scan.proofs.EachLaws.{EachAt}
use Rattle.receiver_scan.proofs.take_each.Given as goal

abbrev pub invariant-loop-at : goal.invariant-loop-at
invariant-loop-at l = (length l.scratch ≡ length l.initial.scratch) × EachAt l.held.samples.rate l.held.wait l.held.base l.dbm l.initial.s l.initial.events l.s l.events l.at

abbrev pub decreases-loop-at : goal.decreases-loop-at
decreases-loop-at l = length l.dbm - l.at
