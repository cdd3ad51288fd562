-- The invariant: what is written, what is left to do and what is kept make the whole.
use mathlib.Core.Path.{◌≡◌}
use mathlib.Core.List.{◌++◌}
use Prim.Native.Nat.{◌<◌}
use lib.ListN.{length, drop}
use Rattle.bytewise.specs.Steps.{by_bytes, state_bytes}
use Rattle.bytewise.proofs.Turns.{whole}
use Rattle.bytewise.proofs.undo_into.Given as goal

abbrev pub invariant-loop-i : goal.invariant-loop-i
invariant-loop-i l = (length l.out ≡ length l.initial.out) × (l.s < 4)
    × (state_bytes l.rank l.s (drop l.i l.bytes) ≡ state_bytes l.rank l.state l.bytes) × (whole l.rank l.bytes l.out l.s l.i ≡ by_bytes l.rank l.state l.bytes ++ drop (length l.bytes) l.initial.out)
