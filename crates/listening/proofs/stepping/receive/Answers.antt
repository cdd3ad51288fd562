use mathlib.Core.Path.{refl}
use mathlib.Core.List.{List}
use Prim.Native.Nat.{ℕ}
use native.Mathlib.Omega.{arith}
use Rattle.ledger.specs.Ledger.{by_frames, Ledger}
use Rattle.frequency_lists.specs.declared.Tuning.{Tuning}
use Rattle.frequency.specs.Lent.{lists}
use Rattle.listening_lines.specs.Text.{Added}
use Rattle.listening_receiver.specs.Standing.{StandsFor}
use Rattle.listening.specs.Hand.{state_of}
use Rattle.listening.proofs.StepLaws.{goes-received}
use Rattle.listening.proofs.stepping.receive.Goals as goal

pub hear-went-requires : goal.hear-went-requires
hear-went-requires c =
    let p = c.requires in
    record { standing = p.standing; most_in_bounds = (omega (arith, p.end_le_widest.0, p.end_le_widest.1), p.end_le_widest.3, p.end_le_widest.4) }

pub returns : goal.returns
returns c =
    let h = c.hear-went in
    let b = c.add_to-last.ensures in record {
      goes = λ (g : Ledger by_frames) (tunings : List Tuning) (old text : List ℕ) (st : StandsFor c.args.receiver.now c.args.b.now.samples g) (a : Added old 0 text c.args.end c.args.out.now).
          goes-received (state_of c.args.l.now (lists c.args.readings.now tunings) g) _ text old _ _ _ _ _ _ _ _ _ _ st a h.ensures (rw c.refused_line-line.ensures at b.added);
      receives = record {
        tracker = refl;
        passed = refl;
        samples = refl;
        frames = h.ensures.frames;
        messages = h.ensures.messages;
        end = omega (arith, c.requires.end_le_widest.0, h.ensures.end, b.upper_bound);
        room = omega (arith, h.ensures.room, b.added.room);
      };
    }
