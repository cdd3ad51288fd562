use Rattle.std.proofs.Common.{rules}
use Rattle.receiver_message.proofs.SpanLaws.{length_mapped}
use Rattle.receiver.proofs.lengths_known.Goals as goal

pub returns : goal.returns
returns c = (search rules, search (rules, length_mapped))
