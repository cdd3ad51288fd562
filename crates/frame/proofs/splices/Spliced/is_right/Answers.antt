use mathlib.Core.Path.{ap₂, ◌∙◌}
use Prim.Native.Nat.{ℕ, ◌+◌, ◌-◌, ◌*◌}
use native.Mathlib.Omega.{arith}
use lib.Dec.{eqb}
use Rattle.frame.specs.Bodies.{bits_of}
use Rattle.frame.proofs.FieldLaws.{right_short}
use Rattle.frame.proofs.PassedLaws.{passed-spliced, passed_right}
use Rattle.frame.proofs.splices.Spliced.is_right.Goals as goal

pub returns-then-len-self : goal.returns-then-len-self
returns-then-len-self c = let v = c.args.self in right_short v.rank v.size (bits_of v) (omega (arith, c.len.ensures, c.if-len-self.true))

pub loop-init : goal.loop-init
loop-init c = let a = c.args in (omega (arith, c.requires.2), passed-spliced a.self.rank a.self a.front c.requires.1 c.requires.0)

pub returns : goal.returns
returns c = let v = c.args.self in
    let f = c.loop.f in
    let high = c.byte-high in
    let low = c.byte-low in
    ap₂ (λ (x y : ℕ). eqb (65535 - f.crc) (x * 256 + y)) c.from.ensures c.from-2.ensures
    ∙ passed_right v.rank v.size (bits_of v) f high.result low.result v.some
    (omega (arith, c.len.ensures, c.if-len-self.false)) (omega (arith, c.loop.invariant.0, c.loop-test.false)) c.loop.invariant.1 high.ensures low.ensures
