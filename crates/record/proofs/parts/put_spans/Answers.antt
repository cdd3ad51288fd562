use Prim.Native.Nat.{◌+◌}
use native.Mathlib.Omega.{arith}
use Rattle.record.specs.Record.{span_bytes}
use Rattle.record.proofs.PartLaws.{three, length_span}
use Rattle.record.proofs.parts.put_spans.Goals as goal

pub returns : goal.returns
returns c = let a = c.args in
    three a.out.now a.at (span_bytes a.a) (span_bytes a.b) (span_bytes a.c) c.put_span.new.out c.put_span-2.new.out c.put_span-3.new.out (a.at + 16) (a.at + 32)
    c.put_span.ensures c.put_span-2.ensures c.put_span-3.ensures (omega (arith, length_span a.a)) (omega (arith, length_span a.b))
