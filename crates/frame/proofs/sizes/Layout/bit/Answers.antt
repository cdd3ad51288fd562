use Rattle.frame.proofs.SizeLaws.{bit_is, bit-low, bit_none}
use Rattle.frame.proofs.sizes.Layout.bit.Goals as goal
use Rattle.frame.proofs.sizes.Layout.bit.Goals.{else-self-eq0-via-then-self-eq0+else-self-ge2, else-self-eq0-via-else-self-eq0}

pub returns-then-self-ge2 : goal.returns-then-self-ge2
returns-then-self-ge2 c = bit_is c.args.self.class c.args.self.li c.if-self-eq0.true c.if-self-ge2.true

pub returns-else-self-eq0 : goal.returns-else-self-eq0
returns-else-self-eq0 c =
    elim c.else-self-eq0.branch [
      | else-self-eq0-via-then-self-eq0+else-self-ge2 w ↦ bit-low c.args.self.class c.args.self.li w.if-self-ge2.false
      | else-self-eq0-via-else-self-eq0 w ↦ bit_none c.args.self.class c.args.self.li w.if-self-eq0.false
    ]
