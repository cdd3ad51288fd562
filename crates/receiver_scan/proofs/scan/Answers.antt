use native.Mathlib.Omega.{arith}
use Rattle.receiver_starts.proofs.StartLaws.{stands, stands_from}
use Rattle.receiver_scan.proofs.EachLaws.{does_scan}
use Rattle.receiver_scan.proofs.scan.Goals as goal

pub forget-requires : goal.forget-requires
forget-requires c = c.take_each.ensures.within.starts

pub returns : goal.returns
returns c =
    let a = c.args in
    let t = c.take_each.new.s in
    does_scan a.held.samples.rate a.held.wait a.held.base a.held.samples.dbm.now a.s.now a.events.now t _ c.forget.new.s c.take_each.ensures
    (stands _ _ _ c.forget.ensures).0
    (omega (arith, stands_from _ t.starts.count _ _ t.starts.at c.forget.ensures, c.take_each.ensures.within.starts))
