use native.Mathlib.Omega.{arith}
use mathlib.Core.Path.{◌≡◌, refl}
use Rattle.limits.specs.Answer.{cause_of}
use Rattle.listening_tracker.proofs.TurnLaws.{tuned-stop, tuned_on, turn_of_0, turn-tuned}
use Rattle.frequency_grown.proofs.RisingLaws.{after_tuned}
use Rattle.listening_tracker.proofs.track.Goals as goal
use Rattle.listening_tracker.proofs.track.Goals.{then-now_hz-ne0+in_ok-tuned, else-now_hz-ne0}

pub returns-in_err-tuned : goal.returns-in_err-tuned
unfolding cause_of
returns-in_err-tuned c = record {
  turned = turn-tuned _ _ _ _ _ _ _ _ _ (omega arith) (tuned-stop _ _ _ _ _ _ _ _ _ _ _ c.in_err-tuned.field-0.0 c.from_residual.ensures.1 c.in_err-tuned.ensures refl);
  single = after_tuned _ _ _ _ _ (omega (arith, c.well_formed)) c.requires c.in_err-tuned.ensures;
}

pub hear-requires : goal.hear-requires
unfolding cause_of
hear-requires c = elim c.if-now_hz-ne0.branch [
  | then-now_hz-ne0+in_ok-tuned w ↦ rw (w.t-is, w.tunings-is) (after_tuned _ _ _ _ _ (omega (arith, c.well_formed)) c.requires w.in_ok-tuned.ensures)
  | else-now_hz-ne0 w ↦ rw (w.t-is, w.tunings-is) c.requires
]

pub returns : goal.returns
unfolding cause_of
returns c =
    let h = c.hear.ensures in
    elim c.if-now_hz-ne0.branch [
      | then-now_hz-ne0+in_ok-tuned w ↦
          let n : c.args.now_hz ≡ 0 → ⊥ = omega (arith, w.if-now_hz-ne0) in
          record { turned = turn-tuned _ _ _ _ _ _ _ _ _ n (tuned_on _ _ _ _ _ _ _ _ _ _ _ _ w.in_ok-tuned.ensures c.requires (rw (w.t-is, w.tunings-is) at h.turned)); single = h.single }
      | else-now_hz-ne0 w ↦
          let z : c.args.now_hz ≡ 0 = omega (arith, w.if-now_hz-ne0) in
          record { turned = turn_of_0 _ _ _ _ _ _ _ _ _ z (rw (w.t-is, w.tunings-is) at h.turned); single = h.single }
    ]
