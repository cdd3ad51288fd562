use mathlib.Core.Path.{sym, ap, ◌∙◌}
use mathlib.Core.Bool.{◌&&◌}
use borrow.Author.Tests.{not-true, not-false}
use mir.Syntax.{w64}
use mir.ValLaws.{to_z-of_z}
use Rattle.subscription.specs.Charges.{plan_ok, start_ok}
use Rattle.subscription.proofs.ChargeLaws.{says_bad, says_plan, says_start, says_out, says_cents}
use Rattle.subscription.proofs.total.Goals as goal
use Rattle.subscription.proofs.total.Goals.{then-not-plan_ok-via-then-not-plan_ok, then-not-plan_ok-via-else-not-plan_ok+then-not-start_ok}

pub returns-then-not-t : goal.returns-then-not-t
returns-then-not-t c =
    let a = c.args in
    says_bad _ a.t.ok (plan_ok a.plan && start_ok a.month_start) a.t.within (not-true _ c.if-not-t.true)

pub returns-then-not-plan_ok : goal.returns-then-not-plan_ok
returns-then-not-plan_ok c =
    let a = c.args in
    let ok = not-false _ c.if-not-t.false in
    let q = ap start_ok (sym (to_z-of_z w64 a.month_start c.ranges.month_start)) in
    elim c.then-not-plan_ok.branch [
      | then-not-plan_ok-via-then-not-plan_ok w ↦ says_plan _ a.t.ok (plan_ok a.plan) (start_ok a.month_start) a.t.within ok (sym c.plan_ok.ensures ∙ w.if-not-plan_ok.true)
      | then-not-plan_ok-via-else-not-plan_ok+then-not-start_ok w ↦
          says_start _ a.t.ok (plan_ok a.plan) (start_ok a.month_start) a.t.within ok (sym c.plan_ok.ensures ∙ w.if-not-plan_ok.false) (q ∙ sym w.start_ok.ensures ∙ w.if-not-start_ok.true)
    ]

pub returns-then-not-t-2 : goal.returns-then-not-t-2
returns-then-not-t-2 c =
    let a = c.args in
    let s = ap start_ok (sym (to_z-of_z w64 a.month_start c.ranges.month_start)) ∙ sym c.start_ok.ensures ∙ c.if-not-start_ok.false in
    says_out _ a.t.ok (plan_ok a.plan) (start_ok a.month_start) a.t.within (not-false _ c.if-not-t.false) (sym c.plan_ok.ensures ∙ c.if-not-plan_ok.false) s (not-true _ c.if-not-t-2.true)

pub returns : goal.returns
returns c =
    let a = c.args in
    let s = ap start_ok (sym (to_z-of_z w64 a.month_start c.ranges.month_start)) ∙ sym c.start_ok.ensures ∙ c.if-not-start_ok.false in
    says_cents _ a.t.ok (plan_ok a.plan) (start_ok a.month_start) a.t.within (not-false _ c.if-not-t.false) (sym c.plan_ok.ensures ∙ c.if-not-plan_ok.false) s (not-false _ c.if-not-t-2.false) c.cents.result c.cents.ensures
