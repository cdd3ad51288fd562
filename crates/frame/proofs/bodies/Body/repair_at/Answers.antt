use mathlib.Core.Path.{refl, ◌∙◌}
use mathlib.Core.Bool.{false}
use mathlib.Core.List.{map}
use native.Mathlib.Omega.{arith}
use lib.ListN.{length, get_or}
use Rattle.coding.specs.Bits.{odd}
use Rattle.frame.specs.Repairs.{repairs}
use Rattle.frame.specs.Decode.{mends}
use Rattle.frame.specs.declared.Repair.{Repair}
use Rattle.frame.specs.declared.Repair.TheVariants.{Inserted}
use Rattle.frame.proofs.SpliceLaws.{in_placed}
use Rattle.frame.proofs.FieldLaws.{tested}
use Rattle.frame.proofs.RepairLaws.{tries, tries_there, first_here, first_after, first_past}
use Rattle.frame.proofs.bodies.Body.repair_at.Goals as goal

abbrev none : Repair
none = Inserted false 0

pub loop-how-init : goal.loop-how-init
unfolding repairs
loop-how-init c = refl

pub with-requires : goal.with-requires
with-requires c = let a = c.args in
    let j = c.loop-how.how-index in
    in_placed (get_or (tries a.i) j none) (length a.self.bits.now) (omega (arith, tries_there a.i j none (omega arith), c.requires.1))

pub returns-then-is_right : goal.returns-then-is_right
returns-then-is_right c = let b = c.args.self in
    let j = c.loop-how.how-index in
    let l = tries c.args.i in
    let v = c.with in
    first_here (mends b.kind (map odd b.bits.now)) l j none (omega arith)
    (tested b (get_or l j none) v.result c.is_right.result v.ensures.0 v.ensures.2 c.is_right.ensures ∙ c.if-is_right.true)
    ∙ c.loop-how.invariant

pub loop-how-preserved : goal.loop-how-preserved
loop-how-preserved c = let b = c.args.self in
    let j = c.loop-how.how-index in
    let l = tries c.args.i in
    let v = c.with in
    first_after (mends b.kind (map odd b.bits.now)) l j none (omega arith)
    (tested b (get_or l j none) v.result c.is_right.result v.ensures.0 v.ensures.2 c.is_right.ensures ∙ c.if-is_right.false)
    ∙ c.loop-how.invariant

pub returns : goal.returns
returns c = let b = c.args.self in
    first_past (mends b.kind (map odd b.bits.now)) (tries c.args.i) c.loop-how.how-index (omega arith) ∙ c.loop-how.invariant
