use mathlib.Core.Path.{◌≡◌}
use Prim.Native.Nat.{◌+◌}
use native.Mathlib.Omega.{arith}
use Rattle.frame.specs.Sizes.{body_bytes}
use Rattle.frame.proofs.SizeLaws.{li_cancels, body_most}
use Rattle.frame.proofs.sizes.Layout.body_bytes.Goals as goal

pub returns : goal.returns
returns c = let a = c.args.self in
    let e : 6 + c.from.result + c.from-2.result + 2 ≡ body_bytes a.class =
    omega (arith, c.from.ensures, c.payload_size.ensures.0, c.from-2.ensures, c.auth_size.ensures.0, li_cancels a.class a.li a.low) in
    (e, omega arith, omega (arith, e, body_most a.class a.known))
