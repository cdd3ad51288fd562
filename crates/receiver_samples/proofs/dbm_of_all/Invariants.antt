-- The invariant: the first i bytes are converted.
use mathlib.Core.List.{◌++◌, map}
use mathlib.Core.Path.{◌≡◌}
use lib.ListN.{drop, length, take}
use Rattle.ledger.specs.Ledger.{dbm_of}
use Rattle.receiver_samples.proofs.dbm_of_all.Given as goal

abbrev pub invariant-loop-i : goal.invariant-loop-i
invariant-loop-i l = (length l.dbm ≡ length l.initial.dbm) × (l.dbm ≡ map dbm_of (take l.i l.raw) ++ drop l.i l.initial.dbm)
