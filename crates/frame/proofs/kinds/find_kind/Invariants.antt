-- The invariant: what is left of the table has the answer.
use mathlib.Core.Path.{◌≡◌}
use lib.ListN.{drop}
use Rattle.frame.specs.Kinds.{kinds, kind_of}
use Rattle.frame.proofs.kinds.find_kind.Given as goal

abbrev pub invariant-loop-i : goal.invariant-loop-i
invariant-loop-i l = kind_of l.ft (drop l.i kinds) ≡ kind_of l.ft kinds
