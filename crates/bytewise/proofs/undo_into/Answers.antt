use mathlib.Core.Path.{refl, sym, ◌∙◌}
use native.Mathlib.Omega.{arith}
use lib.ListN.{length-set}
use Rattle.bytewise.proofs.Turns.{whole, whole-turn, whole_end, state-turn, state_end}
use Rattle.bytewise.proofs.undo_into.Goals as goal

pub loop-i-init : goal.loop-i-init
unfolding whole
loop-i-init c = (refl, c.requires.1, refl, refl)

pub undone_byte-step-requires : goal.undone_byte-step-requires
undone_byte-step-requires c =
    (c.decoded-decoded.ensures, c.next-next.ensures, c.requires.0, c.loop-i.invariant.1)

pub loop-i-preserved : goal.loop-i-preserved
loop-i-preserved c =
    let u = c.undone_byte-step in
    let a = c.args in (
      simp length-set c.loop-i.invariant.0,
      u.ensures.2,
      state-turn a.rank a.bytes.now c.loop-i.out c.loop-i.s c.loop-i.i u.result.state (omega arith) u.ensures.1 ∙ c.loop-i.invariant.2,
      whole-turn a.rank a.bytes.now c.loop-i.out c.loop-i.s c.loop-i.i u.result.byte u.result.state (omega arith) (omega arith) u.ensures.0 u.ensures.1
          ∙ c.loop-i.invariant.3,
    )

pub returns : goal.returns
returns c =
    let a = c.args in (
      sym (whole_end a.rank a.bytes.now c.loop-i.out c.loop-i.s c.loop-i.i (omega arith) (omega arith)) ∙ c.loop-i.invariant.3,
      sym (state_end a.rank a.bytes.now c.loop-i.out c.loop-i.s c.loop-i.i (omega arith)) ∙ c.loop-i.invariant.2,
      c.loop-i.invariant.1,
    )
