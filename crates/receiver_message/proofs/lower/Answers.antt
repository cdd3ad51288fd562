use Rattle.receiver_message.proofs.SpanLaws.{lower_only, lower_other, lower_this}
use Rattle.receiver_message.proofs.lower.Goals as goal

pub returns-then-t-s : goal.returns-then-t-s
returns-then-t-s c =
    lower_other c.args.s c.if-s-eq0.false c.if-s-eq-NO_RANK.false c.args.rest c.in-Some.t c.in-Some.is c.if-t-s.true

pub returns-else-t-s : goal.returns-else-t-s
returns-else-t-s c =
    lower_this c.args.s c.if-s-eq0.false c.if-s-eq-NO_RANK.false c.args.rest c.in-Some.t c.in-Some.is c.if-t-s.false

pub returns-in_default : goal.returns-in_default
returns-in_default c = lower_only c.args.s c.if-s-eq0.false c.if-s-eq-NO_RANK.false c.args.rest c.in_default.is
