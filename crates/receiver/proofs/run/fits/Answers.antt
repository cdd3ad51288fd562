use mathlib.Core.Bool.{false}
use mathlib.Core.Path.{refl}
use Prim.Native.Nat.{◌+◌, ◌*◌}
use native.Mathlib.Omega.{arith}
use borrow.Author.Tests.{ltb-true}
use Rattle.ledger.proofs.Basics.{clash}
use Rattle.receiver.proofs.run.fits.Goals as goal

pub returns-then-n-eq0 : goal.returns-then-n-eq0
returns-then-n-eq0 c e = clash false e refl

pub returns-then-capacity-held : goal.returns-then-capacity-held
returns-then-capacity-held c e = clash false e refl

pub returns : goal.returns
returns c e =
    let a = c.args in
    (omega (arith, c.if-n-eq0.false), omega (arith, c.capacity.ensures, c.if-capacity-held.false), ltb-true (2 * (a.unscanned + a.n)) a.rate e)
