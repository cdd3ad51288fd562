use Rattle.limits.specs.Answer.{cause_of}
use Rattle.frequency.specs.Lent.{lists}
use Rattle.frequency.proofs.Choices.{chosen, passed}
use Rattle.frequency_grown.proofs.KnownLaws.{next-cause}
use lib.ListN.{length}
use mathlib.Core.Path.{refl, sym, ◌∙◌}
use native.Mathlib.Omega.{arith}
use borrow.Author.Tests.{lt-ltb, le-ltb}
use Rattle.frequency_grown.proofs.next_tuning.Goals as goal

pub returns-then-out-t : goal.returns-then-out-t
unfolding cause_of
returns-then-out-t c =
    let a = c.args in
    let l = lists a.readings.now a.tunings.now in
    record {
      refusal = sym (next-cause a.t.now l c.requires (length a.out.now) ∙ chosen 2 _ (lt-ltb _ _ c.if-out-t.true));
      state = λ e. absurd (omega arith);
      answer = λ e. absurd (omega arith);
      same_state = λ e. refl;
      no_answer = λ e. refl;
      same_scratch = λ e. refl;
    }

pub choose_tuning-requires : goal.choose_tuning-requires
choose_tuning-requires c =
    let a = c.args in
    next-cause a.t.now (lists a.readings.now a.tunings.now) c.requires (length a.out.now) ∙ passed 2 _ (le-ltb _ _ c.if-out-t.false)

pub returns : goal.returns
unfolding cause_of
returns c = c.choose_tuning.ensures
