use Rattle.std.proofs.Common.{Option, ℕ, refl, sym, ap, ◌∙◌, arith}
use Rattle.limits.specs.Answer.{cause_of}
use Rattle.limits.proofs.AnswerLaws.{cause_refused}
use Rattle.frequency.proofs.Tuned.{Fine, fine, made, tuned-state, tuned-lists}
use Rattle.frequency.proofs.FrequencyTracker.tuned.Goals.{In_ok-check_tuned}
use Rattle.frequency.proofs.FrequencyTracker.tuned.Goals as goal

pub returns-in_err-check_tuned : goal.returns-in_err-check_tuned
unfolding cause_of
returns-in_err-check_tuned c =
    let r = cause_refused _ _ _ c.from_residual.ensures.1 c.in_err-check_tuned.ensures in
    record { refusal = r.0; state = λ e. absurd (r.1 e); lent = λ e. absurd (r.1 e); same_state = λ e. refl; same_lent = λ e. refl }

good : (c : In_ok-check_tuned) → let a = c.args in Fine a.self.now a.tunings.now a.hz
unfolding cause_of
good c = let a = c.args in fine a.self.now a.tunings.now a.hz (sym c.in_ok-check_tuned.ensures)

pub is_due-due-requires : goal.is_due-due-requires
is_due-due-requires c = (good (goal.at.is_due-due-requires c).In_ok-check_tuned).ordered.places

pub put-self-requires : goal.put-self-requires
put-self-requires c = λ e. omega (arith, (good (goal.at.put-self-requires c).In_ok-check_tuned).free (sym c.is_due-due.ensures ∙ e))

pub returns : goal.returns
unfolding cause_of
returns c =
    let a = c.args in
    let s = a.self.now in
    let ts = a.tunings.now in
    let f = good (goal.at.returns c).In_ok-check_tuned in
    let y = c.put-self in
    let n = y.ensures.next ∙ rw c.is_due-due.ensures refl in
    let l = y.ensures.list ∙ rw c.is_due-due.ensures refl in
    record {
      refusal = c.in_ok-check_tuned.ensures;
      state = λ z rs b. tuned-state s ts a.hz f rs b y.result y.new.l n l _ (ap (λ (g : Option ℕ). made s y.result g) c.answer-self.ensures);
      lent = λ z rs b. tuned-lists s ts a.hz f rs b y.result y.new.l n l;
      same_state = λ z. absurd (z refl);
      same_lent = λ z. absurd (z refl);
    }
