-- The invariant: one is near just where one of those left is.
use Rattle.std.proofs.Common.{◌≡◌, drop, take}
use Rattle.receiver_starts.specs.Starts.{near_one}
use Rattle.receiver_starts.proofs.near.Given as goal

abbrev pub invariant-loop-d : goal.invariant-loop-d
invariant-loop-d l = near_one l.rate (take l.n l.starts) l.x ≡ near_one l.rate (drop l.d-index (take l.n l.starts)) l.x
