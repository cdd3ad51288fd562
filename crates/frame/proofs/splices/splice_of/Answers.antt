use mathlib.Core.Path.{◌≡◌, sym, ap, ◌∙◌}
use Rattle.std.proofs.Common.{Some}
use mathlib.Core.List.{map}
use native.Mathlib.Omega.{arith}
use lib.ListN.{length}
use Rattle.whole.proofs.Tests.{one_is}
use Rattle.coding.specs.Bits.{odd, bit_of}
use Rattle.coding.proofs.BitLaws.{bit_at, bit-lt}
use Rattle.frame.specs.Splices.{place}
use Rattle.frame.specs.Repairs.{repaired}
use Rattle.frame.specs.declared.Repair.{Repair}
use Rattle.frame.proofs.SpliceLaws.{placed_in, inserts, deletes, flips}
use Rattle.frame.proofs.splices.splice_of.Goals as goal

pub bounds-bits-at : goal.bounds-bits-at
bounds-bits-at c = let a = c.args in omega (arith, placed_in a.how (length a.bits.now) c.requires.1, ap place c.in-Flipped.is)

pub overflow_sub-result : goal.overflow_sub-result
overflow_sub-result c = omega (arith, bit_at c.args.bits.now c.in-Flipped.at c.requires.0)

pub returns-in-Inserted : goal.returns-in-Inserted
returns-in-Inserted c = let a = c.args in
    let l = map odd a.bits.now in
    let g = c.in-Inserted in
    let h = placed_in a.how (length a.bits.now) c.requires.1 in
    let e : c.from.result ≡ bit_of g.b = c.from.ensures ∙ one_is g.b in (
      omega (arith, e, bit-lt g.b),
      omega arith,
      omega arith,
      omega (arith, h, ap place g.is),
      sym (ap place g.is),
      inserts l g.at g.b c.from.result e ∙ sym (ap (λ (r : Repair). repaired (Some r) l) g.is),
    )

pub returns-in-Deleted : goal.returns-in-Deleted
returns-in-Deleted c = let a = c.args in
    let l = map odd a.bits.now in
    let g = c.in-Deleted in
    let h = placed_in a.how (length a.bits.now) c.requires.1 in (
      omega arith,
      omega arith,
      omega arith,
      omega (arith, h, ap place g.is),
      sym (ap place g.is),
      deletes l g.at ∙ sym (ap (λ (r : Repair). repaired (Some r) l) g.is),
    )

pub returns-in-Flipped : goal.returns-in-Flipped
returns-in-Flipped c = let a = c.args in
    let l = map odd a.bits.now in
    let g = c.in-Flipped in
    let h = placed_in a.how (length a.bits.now) c.requires.1 in (
      omega arith,
      omega arith,
      omega arith,
      omega (arith, h, ap place g.is),
      sym (ap place g.is),
      flips a.bits.now g.at c.requires.0 ∙ sym (ap (λ (r : Repair). repaired (Some r) l) g.is),
    )
