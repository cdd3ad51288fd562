use mathlib.Core.Path.{refl, sym, ◌∙◌}
use Prim.Native.Nat.{◌-◌}
use native.Mathlib.Omega.{arith}
use lib.ListN.{length}
use Rattle.writer.proofs.Stores.{digit-turn, digit_end, digit_start}
use Rattle.writer.proofs.put_digits.Goals as goal

pub loop-i-init : goal.loop-i-init
loop-i-init c = digit_start c.args.out.now c.args.x

pub loop-i-preserved : goal.loop-i-preserved
loop-i-preserved c = let l = c.loop-i in
    let n = length c.args.out.now in
    digit-turn l.out n c.args.x l.i _ (n - 1 - l.i) (omega arith) refl refl ∙ l.invariant

pub returns : goal.returns
returns c = let l = c.loop-i in sym (digit_end l.out (length c.args.out.now) c.args.x l.i (omega arith)) ∙ l.invariant
