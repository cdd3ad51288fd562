use Prim.Native.Nat.{◌+◌}
use native.Mathlib.Omega.{arith}
use Rattle.record.specs.Record.{rank_bytes, time_bytes}
use Rattle.record.proofs.PartLaws.{follow, length-ranks}
use Rattle.record.proofs.parts.put_middle.Goals as goal

pub returns : goal.returns
unfolding time_bytes
returns c = let a = c.args in
    follow a.out.now a.at (rank_bytes a.a a.b a.c) c.put_ranks.new.out (time_bytes a.time a.end) c.put_two.new.out (a.at + 4)
    c.put_ranks.ensures c.put_two.ensures (omega (arith, length-ranks a.a a.b a.c))
