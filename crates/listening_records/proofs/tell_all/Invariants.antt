-- The invariant: the first i records are told.
use Prim.Native.Nat.{ℕ}
use mathlib.Core.List.{List}
use lib.ListN.{length}
use mathlib.Core.Path.{◌≡◌}
use Rattle.ledger.specs.Records.{records_in}
use Rattle.listening_records.specs.Emission.{Emission, Tells, Grown, asked, emitted_all}
use Rattle.listening_records.proofs.tell_all.Given as goal

abbrev pub invariant-loop-i : goal.invariant-loop-i
invariant-loop-i l =
    (length l.scratch ≡ length l.initial.scratch)
    × Grown l.i l.initial.t l.t l.initial.out l.out
    × ((old : List ℕ) (start : ℕ) (p : Emission) → Tells p old start 0 l.initial.t l.initial.out
    → Tells (emitted_all (asked l.q (length l.initial.scratch)) p (records_in l.i l.events)) old start 0 l.t l.out)
