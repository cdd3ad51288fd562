use Rattle.limits.specs.Answer.{cause_of}
use Rattle.frequency.proofs.Choices.{chosen, passed}
use mathlib.Core.Bool.{not}
use mathlib.Core.Path.{sym, ap, ◌∙◌}
use borrow.Author.Tests.{lt-ltb, le-ltb}
use Rattle.frequency_grown.proofs.check_line.Goals as goal

pub returns-then-dbm-rate : goal.returns-then-dbm-rate
unfolding cause_of
returns-then-dbm-rate c = sym (chosen 3 _ (lt-ltb _ _ c.if-dbm-rate.true))

pub returns-then-not-all_dbm : goal.returns-then-not-all_dbm
unfolding cause_of
returns-then-not-all_dbm c = sym (passed 3 _ (le-ltb _ _ c.if-dbm-rate.false) ∙ chosen 4 _ (ap not (sym c.all_dbm.ensures ∙ c.if-not-all_dbm.true)))

pub returns-then-n-dbm-gt-LONGEST_STREAM : goal.returns-then-n-dbm-gt-LONGEST_STREAM
unfolding cause_of
returns-then-n-dbm-gt-LONGEST_STREAM c = sym (passed 3 _ (le-ltb _ _ c.if-dbm-rate.false) ∙ passed 4 _ (ap not (sym c.all_dbm.ensures ∙ c.if-not-all_dbm.false)) ∙ chosen 7 _ (lt-ltb _ _ c.if-n-dbm-gt-LONGEST_STREAM.true))

pub returns : goal.returns
unfolding cause_of
returns c = sym (passed 3 _ (le-ltb _ _ c.if-dbm-rate.false) ∙ passed 4 _ (ap not (sym c.all_dbm.ensures ∙ c.if-not-all_dbm.false)) ∙ passed 7 _ (le-ltb _ _ c.if-n-dbm-gt-LONGEST_STREAM.false))
