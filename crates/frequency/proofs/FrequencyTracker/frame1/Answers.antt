use Rattle.std.proofs.Common.{rules, ◌≡◌, ℕ, length, Option, Ok, sym, ap, ◌∙◌}
use lib.Seq.{length-take-le}
use Rattle.limits.specs.Answer.{cause_of, said}
use Rattle.limits.proofs.AnswerLaws.{said_refused, said_accepted, free_kept}
use Rattle.record.specs.Spans.{spans_ok}
use Rattle.frequency.specs.Calls.{held_readings}
use Rattle.frequency.specs.Order.{cause_frame}
use Rattle.frequency.proofs.Framing.{held_of, free_again, blank, three, one_is, mid_is, freed}
use Rattle.frequency.proofs.FrequencyTracker.frame1.Goals.{Start, After-spans_ok-ok}
use Rattle.frequency.proofs.FrequencyTracker.frame1.Goals as goal

-- the array has three places
sized : (s : Start) → length s.args.spans ≡ 3
sized s = search rules

-- the cause is that of the array
same_cause : (c : After-spans_ok-ok) → let a = c.args in length a.spans ≡ 3 →
    cause_frame a.self.now a.readings.now (length a.out.now) c.spans_ok-ok.result ≡ cause_frame a.self.now a.readings.now (length a.out.now) (spans_ok a.spans)
same_cause c n =
    let a = c.args in
    ap (cause_frame a.self.now a.readings.now (length a.out.now)) (c.spans_ok-ok.ensures ∙ ap spans_ok (sym (three a.spans blank n)))

pub returns-in_err-check_frame : goal.returns-in_err-check_frame
unfolding cause_of
returns-in_err-check_frame c =
    let k = c.in_err-check_frame.ensures ∙ same_cause (goal.at.returns-in_err-check_frame c).After-spans_ok-ok (sized (goal.at.returns-in_err-check_frame c).Start) in
    record { says = said_refused _ _ _ c.from_residual.ensures.1 k _; scratch = free_kept _ _ }

pub slice_bounds-held-end : goal.slice_bounds-held-end
unfolding cause_of
slice_bounds-held-end c =
    let a = c.args in sym (length-take-le a.self.now.readings a.readings.now (held_of a.self.now a.readings.now a.out.now c.spans_ok-ok.result (sym c.in_ok-check_frame.ensures)).places)

pub of_rank-f1-requires : goal.of_rank-f1-requires
unfolding cause_of
of_rank-f1-requires c = let a = c.args in (held_of a.self.now a.readings.now a.out.now c.spans_ok-ok.result (sym c.in_ok-check_frame.ensures)).free

pub returns-then-not-downlink : goal.returns-then-not-downlink
unfolding cause_of
returns-then-not-downlink c =
    let a = c.args in
    let k : 0 ≡ _ = c.in_ok-check_frame.ensures ∙ same_cause (goal.at.returns-then-not-downlink c).After-spans_ok-ok (sized (goal.at.returns-then-not-downlink c).Start) in
    record {
      says = ap (λ (f : Option ℕ). said (Ok f)) (one_is a.self.now.rate (held_readings a.self.now a.readings.now) a.spans a.downlink c.of_rank-f1.result c.direct_hz-one.result c.of_rank-f1.ensures.0 c.direct_hz-one.ensures c.if-not-downlink.true)
          ∙ said_accepted _ k _;
      scratch = freed _ _ _ k;
    }

pub of_rank-f2-requires : goal.of_rank-f2-requires
unfolding cause_of
of_rank-f2-requires c =
    let a = c.args in
    free_again _ a.out.now _ (held_of a.self.now a.readings.now a.out.now c.spans_ok-ok.result (sym c.in_ok-check_frame.ensures)).free c.of_rank-f1.ensures.1

pub of_rank-f3-requires : goal.of_rank-f3-requires
unfolding cause_of
of_rank-f3-requires c =
    let a = c.args in
    free_again _ a.out.now _ (held_of a.self.now a.readings.now a.out.now c.spans_ok-ok.result (sym c.in_ok-check_frame.ensures)).free (c.of_rank-f2.ensures.1 ∙ c.of_rank-f1.ensures.1)

pub returns : goal.returns
unfolding cause_of
returns c =
    let a = c.args in
    let k : 0 ≡ _ = c.in_ok-check_frame.ensures ∙ same_cause (goal.at.returns c).After-spans_ok-ok (sized (goal.at.returns c).Start) in
    record {
      says = ap (λ (f : Option ℕ). said (Ok f)) (mid_is a.self.now.rate (held_readings a.self.now a.readings.now) a.spans a.downlink c.of_rank-f1.result c.direct_hz-one.result c.of_rank-f1.ensures.0 c.direct_hz-one.ensures c.if-not-downlink.false
          c.of_rank-f2.result c.of_rank-f3.result c.middle_hz.result c.of_rank-f2.ensures.0 c.of_rank-f3.ensures.0 c.middle_hz.ensures)
          ∙ said_accepted _ k _;
      scratch = freed _ _ _ k;
    }
