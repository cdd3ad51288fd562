use Prim.Native.Nat.{◌<◌}
use Rattle.print_conv_tables.proofs.decode.Given as goal

abbrev pub invariant-loop-i : goal.invariant-loop-i
invariant-loop-i l = (l.p < 2) × (l.q < 2)
