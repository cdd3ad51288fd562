use mathlib.Core.Bool.{false}
use mathlib.Core.Path.{◌∙◌, refl, sym}
use Rattle.ledger.proofs.Basics.{clash}
use Rattle.receiver.proofs.StateLaws.{not_true}
use Rattle.receiver.proofs.run.only_adds.Goals as goal

pub returns-then-not-fits : goal.returns-then-not-fits
returns-then-not-fits c e = clash false e refl

pub returns : goal.returns
returns c e =
    let g = c.fits.ensures c.if-not-fits.false in
    record {
      some = g.0;
      fits = g.1;
      quiet = g.2;
      stay = rw c.seconds-time.ensures at (sym c.any_expires.ensures ∙ not_true c.any_expires.result e);
    }
