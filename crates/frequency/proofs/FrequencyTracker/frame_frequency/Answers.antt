use Rattle.std.proofs.Common.{◌≡◌, length, Option, Ok, sym, ap, ◌∙◌}
use lib.Seq.{length-take-le}
use Rattle.limits.specs.Answer.{cause_of, said}
use Rattle.limits.proofs.AnswerLaws.{said_refused, said_accepted, free_kept}
use Rattle.record.specs.Spans.{span_ok}
use Rattle.frequency_measure.specs.declared.FrameFrequency.{FrameFrequency}
use Rattle.frequency.specs.Order.{cause_frame}
use Rattle.frequency.proofs.Framing.{held_of, freed}
use Rattle.frequency.proofs.FrequencyTracker.frame_frequency.Goals as goal

pub returns-in_err-check_frame : goal.returns-in_err-check_frame
unfolding cause_of
returns-in_err-check_frame c =
    let a = c.args in
    let k = c.in_err-check_frame.ensures ∙ ap (cause_frame a.self.now a.readings.now (length a.out.now)) c.span_ok.ensures in
    record { says = said_refused _ _ _ c.from_residual.ensures.1 k _; scratch = free_kept _ _ }

pub slice_bounds-frame_of-end : goal.slice_bounds-frame_of-end
unfolding cause_of
slice_bounds-frame_of-end c =
    let a = c.args in sym (length-take-le a.self.now.readings a.readings.now (held_of a.self.now a.readings.now a.out.now c.span_ok.result (sym c.in_ok-check_frame.ensures)).places)

pub frame_of-requires : goal.frame_of-requires
unfolding cause_of
frame_of-requires c = let a = c.args in (held_of a.self.now a.readings.now a.out.now c.span_ok.result (sym c.in_ok-check_frame.ensures)).free

pub returns : goal.returns
unfolding cause_of
returns c =
    let a = c.args in
    let k : 0 ≡ cause_frame a.self.now a.readings.now (length a.out.now) (span_ok a.f) = c.in_ok-check_frame.ensures ∙ ap (cause_frame a.self.now a.readings.now (length a.out.now)) c.span_ok.ensures in
    record { says = ap (λ (m : Option FrameFrequency). said (Ok m)) c.frame_of.ensures.0 ∙ said_accepted _ k _; scratch = freed _ _ _ k }
