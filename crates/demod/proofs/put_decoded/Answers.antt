use Rattle.std.proofs.Common.{refl, ap, ◌∙◌}
use lib.Seq.{sets}
use Rattle.std.proofs.Common.{append-nil}
use Rattle.record.specs.Record.{frame_record}
use Rattle.record.specs.declared.Reception.{Reception}
use Rattle.demod.specs.Capture.{reception_of, record_if, joined}
use Rattle.demod.proofs.put_decoded.Goals as goal

pub returns-in-None : goal.returns-in-None
unfolding record_if joined
returns-in-None c = rw c.in-None.is (refl, refl)

pub returns-in-Some : goal.returns-in-Some
unfolding record_if joined
returns-in-Some c =
    let d = c.in-Some.d in
    let e = c.args.events.now in
    rw (c.in-Some.is, append-nil (frame_record d.frame (reception_of d c.args.start))) (
      refl,
      c.put_frame.ensures ∙ ap (λ (r : Reception). sets e 0 (frame_record d.frame r)) c.reception.ensures,
    )
