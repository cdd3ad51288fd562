use native.Mathlib.Omega.{arith}
use Rattle.frame.proofs.SizeLaws.{payload_none, payload_one, payload_more, payload_most}
use Rattle.frame.proofs.sizes.Layout.payload_size.Goals as goal

pub returns-then-self-eq0 : goal.returns-then-self-eq0
returns-then-self-eq0 c = (payload_none c.args.self.class c.args.self.li c.if-self-eq0.true, omega arith)

pub returns-then-self-eq1 : goal.returns-then-self-eq1
returns-then-self-eq1 c = (payload_one c.args.self.class c.args.self.li c.if-self-eq1.true, omega arith)

pub returns : goal.returns
returns c = let a = c.args.self in
    let e = payload_more a.class a.li c.if-self-eq0.false c.if-self-eq1.false in
    (e, omega (arith, e, payload_most a.class a.li a.known))
