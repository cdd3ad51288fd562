-- The invariant: none is too old just where none of those left is.
use Rattle.std.proofs.Common.{◌≡◌, drop}
use Rattle.receiver_starts.specs.Starts.{all_from}
use Rattle.receiver_starts.proofs.all_from.Given as goal

abbrev pub invariant-loop-d : goal.invariant-loop-d
invariant-loop-d l = all_from l.back l.starts ≡ all_from l.back (drop l.d-index l.starts)
