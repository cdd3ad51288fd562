use mathlib.Core.Path.{◌≡◌, ◌∙◌, refl}
use native.Mathlib.Omega.{arith}
use lib.ListN.{length}
use Rattle.receiver.proofs.run.add.Goals as goal

pub returns : goal.returns
returns c =
    let f = c.fill-n in
    let n : f.result ≡ length c.args.dbm.now = omega (arith, f.ensures.0, c.requires.0.fits) in
    record { answer = rw n refl; samples = f.ensures.1 ∙ rw n refl }
