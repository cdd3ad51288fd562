-- The invariant: all are below the end just where those left are.
use Rattle.std.proofs.Common.{◌≡◌, drop}
use Rattle.receiver_starts.specs.Starts.{all_below}
use Rattle.receiver_starts.proofs.all_below.Given as goal

abbrev pub invariant-loop-d : goal.invariant-loop-d
invariant-loop-d l = all_below l.held l.starts ≡ all_below l.held (drop l.d-index l.starts)
