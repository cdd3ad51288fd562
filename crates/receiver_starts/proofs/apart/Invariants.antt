-- The invariant: those left are spaced behind those seen just where all are.
use Rattle.std.proofs.Common.{◌≡◌, [], drop, take}
use Rattle.receiver_starts.specs.Starts.{all_apart}
use Rattle.receiver_starts.proofs.apart.Given as goal

abbrev pub invariant-loop-i : goal.invariant-loop-i
invariant-loop-i l = all_apart l.rate [] l.starts ≡ all_apart l.rate (take l.i l.starts) (drop l.i l.starts)
