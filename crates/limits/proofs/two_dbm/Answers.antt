use Rattle.limits.proofs.Constants.{lowest_is, highest_is}
use Rattle.limits.proofs.Pairs.{two_less, two_more}
use Rattle.limits.proofs.two_dbm.Goals.{then-a-b, else-a-b}
use Rattle.limits.proofs.two_dbm.Goals as goal

pub returns : goal.returns
returns c =
    let a = c.args.a in
    let b = c.args.b in
    rw (lowest_is, highest_is)
    (elim c.if-a-b.branch [
      | then-a-b w ↦ rw w.lower-is (two_less a b w.if-a-b.true)
      | else-a-b w ↦ rw w.lower-is (two_more a b w.if-a-b.false)
    ])
