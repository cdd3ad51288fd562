use Rattle.receiver_message.proofs.SpanLaws.{end_known, end_unknown}
use Rattle.receiver_message.proofs.end_nan.Goals as goal

pub returns-in-Some : goal.returns-in-Some
returns-in-Some c = end_known c.args.known c.in-Some.t c.is_nan.result c.in-Some.is c.is_nan.ensures.value

pub returns-in-None : goal.returns-in-None
returns-in-None c = end_unknown c.args.known c.in-None.is
