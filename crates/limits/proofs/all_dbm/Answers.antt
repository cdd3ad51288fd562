use Prim.Native.Nat.{◌*◌, ◌/◌}
use native.Mathlib.Omega.{arith}
use lib.ListN.{length}
use Rattle.limits.proofs.Pairs.{seen_none, pairs_turn, pairs_even, pairs_odd}
use Rattle.limits.proofs.all_dbm.Goals as goal

pub loop-i-init : goal.loop-i-init
loop-i-init c = let l = c.args.dbm.now in seen_none l (length l / 2)

pub loop-i-preserved : goal.loop-i-preserved
loop-i-preserved c =
    let l = c.args.dbm.now in
    pairs_turn l (length l / 2) c.loop-i.i c.loop-i.ok c.two_dbm-ok.result (omega arith) c.two_dbm-ok.ensures c.loop-i.invariant

pub returns-then-half-dbm : goal.returns-then-half-dbm
returns-then-half-dbm c =
    let l = c.args.dbm.now in
    pairs_even l (length l / 2) c.loop-i.i c.loop-i.ok (omega arith) (omega arith) c.loop-i.invariant

pub returns : goal.returns
returns c =
    let l = c.args.dbm.now in
    pairs_odd l (length l / 2) c.loop-i.i (2 * (length l / 2)) c.loop-i.ok c.is_dbm-last.result (omega arith) (omega arith) (omega arith) c.is_dbm-last.ensures c.loop-i.invariant
