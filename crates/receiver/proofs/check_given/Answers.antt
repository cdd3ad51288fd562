use mathlib.Core.Path.{◌∙◌, sym}
use native.Mathlib.Omega.{arith}
use Rattle.limits.specs.Answer.{cause_of}
use Rattle.receiver.proofs.CauseLaws.{given-long, given_none, given-rate, given-short}
use Rattle.receiver.specs.Running.{lent_of}
use Rattle.receiver.proofs.check_given.Goals as goal

pub returns-then-not-rate_ok : goal.returns-then-not-rate_ok
unfolding cause_of
returns-then-not-rate_ok c = given-rate c.args.rate (lent_of c.args.lent) c.args.n (sym c.rate_ok.ensures ∙ c.if-not-rate_ok.true)

pub returns-then-too_short : goal.returns-then-too_short
unfolding cause_of
returns-then-too_short c = given-short c.args.rate (lent_of c.args.lent) c.args.n (sym c.rate_ok.ensures ∙ c.if-not-rate_ok.false) (sym c.too_short.ensures ∙ c.if-too_short.true)

pub returns-then-capacity-n : goal.returns-then-capacity-n
unfolding cause_of
returns-then-capacity-n c = given-long c.args.rate (lent_of c.args.lent) c.args.n (sym c.rate_ok.ensures ∙ c.if-not-rate_ok.false) (sym c.too_short.ensures ∙ c.if-too_short.false) (omega (arith, c.capacity.ensures, c.if-capacity-n.true))

pub returns : goal.returns
unfolding cause_of
returns c = given_none c.args.rate (lent_of c.args.lent) c.args.n (sym c.rate_ok.ensures ∙ c.if-not-rate_ok.false) (sym c.too_short.ensures ∙ c.if-too_short.false) (omega (arith, c.capacity.ensures, c.if-capacity-n.false))
