use Rattle.std.proofs.Common.{◌≡◌, false, sym, ap, ◌∙◌, arith}
use Rattle.clock.specs.declared.Clock.{Clock}
use Rattle.clock.specs.Clock.{lost}
use Rattle.clock.specs.Running.{index_at, skips, summed, refit}
use Rattle.clock.proofs.ClockLaws.{step-lost, step-skipped, step-joined}
use Rattle.clock.proofs.Clock.track.Goals.{In-Some}
use Rattle.clock.proofs.Clock.track.Goals as goal

pub refit-requires : goal.refit-requires
unfolding summed
refit-requires c = omega (arith, ap (λ (k : Clock). k.count) c.summed.ensures, c.requires)

pub returns-in_default : goal.returns-in_default
returns-in_default c = step-lost c.args.self c.args.d (ap lost (sym c.index_at.ensures) ∙ c.in_default.ensures)

-- the bit index of the dip, which is kept
at : (c : In-Some) → c.in-Some.index.k ≡ index_at c.args.self c.args.d
at c = c.in-Some.ensures ∙ c.index_at.ensures

kept : (c : In-Some) → lost (index_at c.args.self c.args.d) ≡ false
kept c = ap lost (sym (at c)) ∙ c.in-Some.index.kept

pub returns-then-skips : goal.returns-then-skips
returns-then-skips c =
    let a = c.args in
    let s = (goal.at.returns-then-skips c).In-Some in
    step-skipped a.self a.d (kept s) (ap (skips a.self a.d) (sym (at s)) ∙ sym c.skips.ensures ∙ c.if-skips.true)

pub returns : goal.returns
returns c =
    let a = c.args in
    let s = (goal.at.returns c).In-Some in
    step-joined a.self a.d c.refit.result (kept s) (ap (skips a.self a.d) (sym (at s)) ∙ sym c.skips.ensures ∙ c.if-skips.false)
    (c.refit.ensures ∙ ap refit (c.summed.ensures ∙ ap (summed a.self a.d) (at s)))
