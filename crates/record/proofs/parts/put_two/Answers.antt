use Prim.Native.Nat.{◌+◌}
use native.Mathlib.Omega.{arith}
use Rattle.endian.specs.Bytes.{bytes_of}
use Rattle.endian.proofs.Numbers.{bytes-length}
use Rattle.record.proofs.PartLaws.{follow}
use Rattle.record.proofs.parts.put_two.Goals as goal

pub returns : goal.returns
returns g c =
    let a = c.args in
    let first = bytes_of g.A.LittleEndian.SIZE (g.A.LittleEndian.pattern a.a) in
    let second = bytes_of g.B.LittleEndian.SIZE (g.B.LittleEndian.pattern a.b) in
    follow a.out.now a.at first c.put.new.out second c.put-2.new.out (a.at + c.SIZE.result) c.put.ensures c.put-2.ensures
    (omega (arith, c.SIZE.ensures, bytes-length g.A.LittleEndian.SIZE (g.A.LittleEndian.pattern a.a)))
