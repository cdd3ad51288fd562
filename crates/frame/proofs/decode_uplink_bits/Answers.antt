use mathlib.Core.Path.{sym, ap, ◌∙◌}
use Rattle.limits.specs.Answer.{accepted, said_by}
use Rattle.frame.proofs.SearchLaws.{answer-long, answer_bad, answer_is}
use Rattle.frame.proofs.decode_uplink_bits.Goals as goal

pub returns-then-bits-gt-MOST_BITS : goal.returns-then-bits-gt-MOST_BITS
unfolding said_by
returns-then-bits-gt-MOST_BITS c = answer-long c.args.bits.now c.if-bits-gt-MOST_BITS.true

pub returns-then-not-are_bits : goal.returns-then-not-are_bits
unfolding said_by
returns-then-not-are_bits c = answer_bad c.args.bits.now c.if-bits-gt-MOST_BITS.false (sym c.are_bits.ensures ∙ c.if-not-are_bits.true)

pub returns : goal.returns
unfolding said_by
returns c = ap accepted c.decode_bits.ensures
    ∙ answer_is c.args.bits.now c.if-bits-gt-MOST_BITS.false (sym c.are_bits.ensures ∙ c.if-not-are_bits.false)
