use Rattle.std.proofs.Common.{Bool, sym, ap, ◌∙◌}
use Rattle.clock.specs.Running.{index_at}
use Rattle.explaining.specs.Verdicts.{off_by, is_far, skipped_by}
use Rattle.explaining.specs.declared.Verdict.TheVariants.{Accepted}
use Rattle.explaining.proofs.VerdictLaws.{judged-lost, judged-skipped, judged-joined}
use Rattle.explaining.proofs.judge.Goals as goal

pub returns-in-Lost : goal.returns-in-Lost
returns-in-Lost c =
    let a = c.args in
    sym (judged-lost a.c a.d (sym c.track.ensures ∙ c.in-Lost.is))

pub returns-in-Skipped : goal.returns-in-Skipped
returns-in-Skipped c =
    let a = c.args in
    c.skipped_by.ensures
    ∙ ap (λ (b : Bool). skipped_by b c.off_by-off.result) (c.is_far-far.ensures ∙ ap (is_far a.c a.d) c.index_at-k.ensures)
    ∙ ap (skipped_by (is_far a.c a.d (index_at a.c a.d))) (c.off_by-off.ensures ∙ ap (off_by a.c a.d) c.index_at-k.ensures)
    ∙ sym (judged-skipped a.c a.d (sym c.track.ensures ∙ c.in-Skipped.is))

pub returns-in-Joined : goal.returns-in-Joined
returns-in-Joined c =
    let a = c.args in
    let m = c.in-Joined.next in
    ap (Accepted m) (c.off_by-off.ensures ∙ ap (off_by a.c a.d) c.index_at-k.ensures)
    ∙ sym (judged-joined a.c a.d m (sym c.track.ensures ∙ c.in-Joined.is))
