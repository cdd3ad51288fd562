use mathlib.Core.Path.{◌≡◌}
use mathlib.Core.Bool.{◌&&◌}
use lib.ListN.{drop}
use Rattle.charges.specs.Words.{are_digits, is_decimal}
use Rattle.charges.proofs.words.is_decimal.Given as goal

abbrev pub invariant-loop-c : goal.invariant-loop-c
invariant-loop-c l = (l.ok && are_digits (drop l.c-index l.text)) ≡ is_decimal l.text
