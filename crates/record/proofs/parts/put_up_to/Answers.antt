use mathlib.Core.Path.{ap, ◌∙◌}
use Prim.Native.Nat.{◌+◌, ◌-◌}
use native.Mathlib.Omega.{arith}
use lib.ListN.{length, take}
use lib.Seq.{sets, length-take-le}
use Rattle.record.specs.Record.{spare}
use Rattle.record.proofs.PartLaws.{follow, up_to_all, up_to_some}
use Rattle.record.proofs.parts.put_up_to.Goals as goal

pub returns-then-bytes-len : goal.returns-then-bytes-len
returns-then-bytes-len c = let a = c.args in
    let l = a.bytes.now in
    c.copy_into.ensures ∙ ap (sets a.out.now a.at) (up_to_all a.len l c.if-bytes-len.true)

pub returns : goal.returns
returns c = let a = c.args in
    let l = a.bytes.now in
    let n = a.len in
    let short = c.if-bytes-len.false in
    follow a.out.now a.at (take n l) c.copy_into-2.new.out (spare (length l - n)) c.put_spare.new.out (a.at + n) c.copy_into-2.ensures c.put_spare.ensures
    (omega (arith, length-take-le n l (omega arith)))
    ∙ ap (sets a.out.now a.at) (up_to_some n l short)
