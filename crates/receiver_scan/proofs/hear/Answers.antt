use mathlib.Core.Path.{refl}
use native.Mathlib.Omega.{arith}
use Rattle.receiver_waiting.proofs.WaitingLaws.{joined-few, stands}
use Rattle.receiver_scan.proofs.TakeLaws.{if_true, if_false}
use Rattle.receiver_scan.proofs.hear.Goals as goal

pub returns-then-right : goal.returns-then-right
returns-then-right c =
    let r = c.reception-r.ensures in
    (if_true c.args.d.frame.crc_ok _ _ _ c.if-right.true (stands _ _ _ (rw r at c.join.ensures)).0, omega (arith, joined-few _ _ _ c.join.ensures, c.requires.0), rw r at c.put_frame.ensures)

pub returns-else-right : goal.returns-else-right
returns-else-right c =
    (if_false c.args.d.frame.crc_ok _ _ _ c.if-right.false refl, omega (arith, c.requires.0), rw c.reception-r.ensures at c.put_frame.ensures)
