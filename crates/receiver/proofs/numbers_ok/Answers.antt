use Prim.Native.Nat.{◌<◌, ◌^◌}
use native.Mathlib.Omega.{arith}
use borrow.Author.Rules.{rules}
use Rattle.receiver.proofs.StateLaws.{numbers_in, numbers_out}
use Rattle.receiver.proofs.numbers_ok.Goals as goal

pub returns-then-capacity-s : goal.returns-then-capacity-s
returns-then-capacity-s c = let a = c.args in
    numbers_out a.s.now.rate a.s.now.held a.s.now.base a.s.now.unscanned (omega (arith, c.if-capacity-s.true, c.capacity.ensures))

pub returns : goal.returns
returns c = let a = c.args in
    let r : a.s.now.rate < 2 ^ 32 = search rules in
    numbers_in a.s.now.rate a.s.now.held a.s.now.base a.s.now.unscanned r (omega (arith, c.if-capacity-s.false, c.capacity.ensures))
