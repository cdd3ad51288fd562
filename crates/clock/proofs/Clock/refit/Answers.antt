use Rattle.std.proofs.Common.{◌≡◌, sym, ap, ◌∙◌}
use lib.Ieee.{Float, lt}
use Rattle.floats.specs.Number.{num}
use Rattle.floats.proofs.Trigs.{zero_is}
use Rattle.clock.specs.Running.{det, slope, refitted}
use Rattle.clock.proofs.ClockLaws.{refit-few, refit_none, refit-done}
use Rattle.clock.proofs.Clock.refit.Goals as goal

pub returns-then-self-lt-REFITS : goal.returns-then-self-lt-REFITS
returns-then-self-lt-REFITS c = refit-few c.args.self c.if-self-lt-REFITS.true

pub returns-then-d : goal.returns-then-d
unfolding refitted slope
returns-then-d c =
    let s = c.args.self in
    let t : lt (num 0) (det s) ≡ _ = sym (ap (λ (x : Float). lt x (det s)) zero_is) ∙ sym (ap (lt _) c.det-d.ensures) ∙ c.if-d.true in
    rw (c.count_as_f64-n.ensures, c.det-d.ensures) (refit-done s c.if-self-lt-REFITS.false t)

pub returns : goal.returns
returns c =
    let s = c.args.self in
    refit_none s c.if-self-lt-REFITS.false (sym (ap (λ (x : Float). lt x (det s)) zero_is) ∙ sym (ap (lt _) c.det-d.ensures) ∙ c.if-d.false)
