use mathlib.Core.Path.{◌∙◌, sym}
use native.Mathlib.Omega.{arith}
use lib.Seq.{length-take-le}
use Rattle.receiver.proofs.StateLaws.{numbers_fit, samples_are, samples_not}
use Rattle.receiver.proofs.samples_in_order.Goals as goal

pub returns-then-not-numbers_ok : goal.returns-then-not-numbers_ok
returns-then-not-numbers_ok c = let a = c.args in
    samples_not a.s.now.rate a.s.now.held a.s.now.base a.s.now.unscanned a.s.now.starts a.samples.now (sym c.numbers_ok.ensures ∙ c.if-not-numbers_ok.true)

pub slice_bounds-all_dbm-end : goal.slice_bounds-all_dbm-end
slice_bounds-all_dbm-end c = let a = c.args in
    let n = numbers_fit a.s.now.rate a.s.now.held a.s.now.base a.s.now.unscanned (sym c.numbers_ok.ensures ∙ c.if-not-numbers_ok.false) in
    sym (length-take-le a.s.now.held a.samples.now (omega (arith, n.0, c.requires)))

pub in_order-apart-requires : goal.in_order-apart-requires
in_order-apart-requires c = let a = c.args in
    let n = numbers_fit a.s.now.rate a.s.now.held a.s.now.base a.s.now.unscanned (sym c.numbers_ok.ensures ∙ c.if-not-numbers_ok.false) in
    omega (arith, n.1)

pub returns : goal.returns
returns c = let a = c.args in
    samples_are a.s.now.rate a.s.now.held a.s.now.base a.s.now.unscanned a.s.now.starts a.samples.now c.all_dbm-valid.result c.in_order-apart.result (sym c.numbers_ok.ensures ∙ c.if-not-numbers_ok.false) c.all_dbm-valid.ensures c.in_order-apart.ensures
