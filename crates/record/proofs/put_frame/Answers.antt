use native.Mathlib.Omega.{arith}
use mir.Syntax.{w32}
use mir.ValLaws.{to_z-of_z}
use Rattle.record.proofs.RecordLaws.{frame-written}
use borrow.Author.Rules.{rules}
use Rattle.record.proofs.put_frame.Goals as goal

pub put_front-requires : goal.put_front-requires
put_front-requires c =
    omega (arith, c.requires)

pub overflow_add-at-3 : goal.overflow_add-at-3
overflow_add-at-3 c =
    record { fits = omega (arith, c.requires, c.well_formed.1.1.0.0) }

pub returns : goal.returns
returns c = let a = c.args in
    frame-written a.f a.r (search rules) (search rules) c.frame_head.result _ a.out.now a.at
    c.put_front.new.out c.put_middle.new.out c.put_spare.new.out c.put.new.out
    c.frame_head.ensures (to_z-of_z w32 a.r.clock_error_ppm (search rules))
    c.put_front.ensures c.put_middle.ensures c.put_spare.ensures c.put.ensures
