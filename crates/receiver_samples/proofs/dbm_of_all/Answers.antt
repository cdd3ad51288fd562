use mathlib.Core.Path.{◌∙◌, ◌≡◌, refl}
use native.Mathlib.Omega.{arith}
use lib.ListN.{length, length-set}
use lib.Seq.{take-length}
use Rattle.receiver_samples.proofs.BufferLaws.{raw-turn}
use Rattle.receiver_samples.proofs.dbm_of_all.Goals as goal

pub loop-i-init : goal.loop-i-init
loop-i-init c = (refl, refl)

pub loop-i-preserved : goal.loop-i-preserved
loop-i-preserved c = let l = c.loop-i in
    (simp length-set l.invariant.0, raw-turn c.args.raw.now c.args.dbm.now l.dbm l.i c.dbm_of.result (omega arith) (omega arith) l.invariant.1 c.dbm_of.ensures)

pub returns : goal.returns
returns c = let l = c.loop-i in
    let r = c.args.raw.now in
    let e : l.i ≡ length r = omega arith in
    l.invariant.1 ∙ rw (e, take-length r) refl
