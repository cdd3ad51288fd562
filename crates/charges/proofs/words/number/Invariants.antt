use mathlib.Core.Path.{◌≡◌}
use Prim.Native.Nat.{◌≤◌}
use lib.ListN.{drop}
use Rattle.charges.specs.Words.{most_number, number_from}
use Rattle.charges.proofs.words.number.Given as goal

abbrev pub invariant-loop-c : goal.invariant-loop-c
invariant-loop-c l = (l.n ≤ most_number) × (number_from l.n (drop l.c-index l.text) ≡ number_from 0 l.text)
