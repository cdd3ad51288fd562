-- The invariant: n is the number of the bytes from i on.
use Rattle.std.proofs.Common.{◌≡◌, ◌+◌, ◌-◌}
use Rattle.endian.specs.Bytes.{number_at}
use Rattle.endian.proofs.number.Given as goal

abbrev pub invariant-loop-i : goal.invariant-loop-i
invariant-loop-i l = l.n ≡ number_at (l.k - l.i) l.s (l.at + l.i)
