use mathlib.Core.Path.{refl}
use native.Mathlib.Omega.{arith}
use lib.ListN.{length-set}
use Rattle.replay.proofs.Turns.{hex-turn, hex_end}
use Rattle.replay.proofs.hex_text.Goals as goal

pub loop-i-init : goal.loop-i-init
loop-i-init c = (refl, refl)

pub loop-i-preserved : goal.loop-i-preserved
loop-i-preserved c =
    let a = c.args in
    (simp length-set c.loop-i.invariant.0, hex-turn a.bytes.now c.loop-i.out _ c.loop-i.i _ _ (omega arith) c.hex_digit.ensures c.hex_digit-in-loop-i.ensures c.loop-i.invariant.1)

pub returns : goal.returns
returns c =
    let a = c.args in
    hex_end a.bytes.now c.loop-i.out _ c.loop-i.i (omega arith) c.loop-i.invariant.1
