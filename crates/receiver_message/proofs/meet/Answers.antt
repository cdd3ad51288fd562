use mathlib.Core.Path.{◌∙◌, sym}
use Rattle.receiver_message.proofs.SpanLaws.{meet-place, meet_there}
use Rattle.receiver_message.proofs.meet.Goals as goal

pub returns-then-has : goal.returns-then-has
returns-then-has c = λ f e. meet_there f c.args.span e c.args.spans (sym c.has.ensures ∙ c.if-has.true)

pub returns : goal.returns
returns c = λ f e. meet-place f c.args.span e c.args.spans c.place.result (sym c.has.ensures ∙ c.if-has.false) (c.place.ensures f e)
