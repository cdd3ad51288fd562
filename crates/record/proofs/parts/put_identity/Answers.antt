use borrow.Author.Rules.{rules}
use Rattle.record.proofs.PartLaws.{identity-written}
use Rattle.record.proofs.parts.put_identity.Goals as goal

pub returns : goal.returns
returns c = let a = c.args in
    identity-written a.out.now a.at a.x.device a.x.counter a.h.payload_len a.h.auth_len a.x.marks a.x.payload a.x.auth
    c.put.new.out c.put-2.new.out c.put_spare.new.out c.put_up_to.new.out c.put_up_to-2.new.out c.put_marks.new.out
    (search rules) (search rules)
    c.put.ensures c.put-2.ensures c.put_spare.ensures c.put_up_to.ensures c.put_up_to-2.ensures c.put_marks.ensures
