-- The invariant: the digits from here on, after n, make the number.
use mathlib.Core.Path.{◌≡◌}
use Prim.Native.Nat.{◌≤◌}
use lib.ListN.{drop}
use Rattle.uplink.specs.Line.{number_from}
use Rattle.uplink.proofs.line.number.Given as goal

abbrev pub invariant-loop-c : goal.invariant-loop-c
invariant-loop-c l = (l.n ≤ l.most) × (number_from l.base l.most l.n (drop l.c-index l.w) ≡ number_from l.base l.most 0 l.w)
