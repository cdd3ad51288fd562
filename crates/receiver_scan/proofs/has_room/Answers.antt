use Rattle.std.proofs.Common.{rules}
use Rattle.receiver_message.proofs.SpanLaws.{length_mapped}
use Rattle.receiver_scan.proofs.has_room.Goals as goal

pub returns-clause-places : goal.returns-clause-places
returns-clause-places c = (search rules, search (rules, length_mapped))
