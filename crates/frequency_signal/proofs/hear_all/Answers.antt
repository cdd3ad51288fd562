use Rattle.std.proofs.Common.{◌≡◌, get_or, sym, refl, ap, ◌∙◌, subst, arith}
use lib.Ieee.{nan}
use Rattle.frequency_signal.specs.declared.Signal.{Signal}
use Rattle.frequency_signal.specs.Order.{Index}
use Rattle.frequency_signal.specs.Heard.{hear, heard}
use Rattle.frequency_signal.proofs.Hearing.{hear-n, hear-index, heard-turn, heard_end}
use Rattle.frequency_signal.proofs.hear_all.Goals as goal

pub loop-x-init : goal.loop-x-init
loop-x-init c = (omega arith, c.requires.2, refl)

pub hear_one-t-requires : goal.hear_one-t-requires
hear_one-t-requires c = let l = c.loop-x.invariant in (c.requires.0, omega arith, l.1)

pub loop-x-preserved : goal.loop-x-preserved
loop-x-preserved c =
    let l = c.loop-x in
    let x = get_or c.args.dbm.now l.x-index nan in
    let e : c.hear_one-t.result ≡ hear c.args.rate l.t x = c.hear_one-t.ensures in (
      ap (λ (z : Signal). z.n) e ∙ hear-n c.args.rate l.t x ∙ omega arith,
      subst (λ (z : Signal). Index z.n z.last_signal) (sym e) (hear-index c.args.rate l.t x l.invariant.1),
      heard-turn c.args.rate l.t c.hear_one-t.result (heard c.args.rate c.args.s c.args.dbm.now) c.args.dbm.now l.x-index (omega arith) e l.invariant.2,
    )

pub returns : goal.returns
returns c =
    let l = c.loop-x in
    sym (heard_end c.args.rate l.t c.args.dbm.now l.x-index (omega arith)) ∙ l.invariant.2
