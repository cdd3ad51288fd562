use mathlib.Core.Path.{refl}
use mathlib.Core.List.{List}
use native.Mathlib.Omega.{arith}
use Rattle.ledger.specs.Ledger.{by_frames, Ledger}
use Rattle.frequency_lists.specs.declared.Tuning.{Tuning}
use Rattle.frequency.specs.Lent.{lists}
use Rattle.listening_lines.proofs.TextLaws.{nothing}
use Rattle.listening_receiver.specs.Standing.{StandsFor}
use Rattle.listening.specs.Hand.{state_of}
use Rattle.listening.proofs.StepLaws.{ending-added}
use Rattle.listening.proofs.ending.finish.Goals as goal

pub close-went-requires : goal.close-went-requires
close-went-requires c =
    let p = c.requires in
    record { standing = p.standing; most_in_bounds = (omega (arith, p.room.1), p.room.0.frames, p.room.0.messages) }

pub returns : goal.returns
returns c =
    let s = c.args in
    let h = c.close-went in
    let a = c.add_to.ensures in record {
      added = λ (g : Ledger by_frames) (tunings : List Tuning) (st : StandsFor s.receiver s.b.now.samples g).
          ending-added (state_of s.l (lists s.readings.now tunings) g) _ _ _ _ _ _ _
          (h.ensures.told g st _ 0 _ (record { refused = refl; frames = refl; messages = refl; text = nothing _ 0 })) (rw c.last_line-line.ensures at a.added);
      upper_bound = omega (arith, h.ensures.end, a.upper_bound);
    }
