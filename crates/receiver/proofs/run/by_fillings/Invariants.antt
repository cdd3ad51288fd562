-- The invariant: what the code has stands for a ledger from which the fillings left go to the same end.
use mathlib.Core.Path.{◌≡◌}
use Prim.Native.Nat.{◌-◌}
use lib.ListN.{length}
use Rattle.receiver.proofs.FillLaws.{FillAt}
use Rattle.receiver.proofs.RunLaws.{all_in, last_buffer}
use Rattle.receiver.proofs.run.by_fillings.Given as goal

abbrev pub invariant-loop-from : goal.invariant-loop-from
invariant-loop-from l =
    (length l.samples ≡ length l.initial.samples) × (length l.events ≡ length l.initial.events) × (length l.scratch ≡ length l.initial.scratch)
    × FillAt l.rate l.dbm (all_in l.s l.initial.samples l.initial.events l.initial.scratch l.dbm) (last_buffer l.s l.initial.samples l.initial.events l.initial.scratch l.dbm) l.initial.events l.samples l.events l.held l.base l.unscanned l.t l.from

abbrev pub decreases-loop-from : goal.decreases-loop-from
decreases-loop-from l = length l.dbm - l.from
