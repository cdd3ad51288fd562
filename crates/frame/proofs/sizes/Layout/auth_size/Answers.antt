use native.Mathlib.Omega.{arith}
use Rattle.frame.proofs.SizeLaws.{auth_two, auth_more, auth_most}
use Rattle.frame.proofs.sizes.Layout.auth_size.Goals as goal

pub returns-then-self-lt2 : goal.returns-then-self-lt2
returns-then-self-lt2 c = (auth_two c.args.self.class c.args.self.li c.if-self-lt2.true, omega arith)

pub returns : goal.returns
returns c = let a = c.args.self in
    let e = auth_more a.class a.li c.if-self-lt2.false in
    (e, omega (arith, e, auth_most a.class a.li a.low))
