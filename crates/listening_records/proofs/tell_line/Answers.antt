use native.Mathlib.Omega.{arith}
use mathlib.Core.List.{List}
use Prim.Native.Nat.{ℕ}
use Rattle.listening_records.specs.Emission.{Emission, Tells}
use Rattle.listening_records.proofs.EmissionLaws.{line_told}
use Rattle.listening_records.proofs.tell_line.Goals as goal

pub returns : goal.returns
returns c =
    let a = c.add_to-t.ensures in
    let s = c.args in record {
      by_index = λ (old : List ℕ) (start : ℕ) (p : Emission) (h : Tells p old start 0 s.t.now s.out.now). line_told p old _ _ start _ s.t.now s.event.bytes.now s.answer (rw c.message_line-line.ensures at a.added) h;
      within = record { end = a.upper_bound; frames = omega arith; messages = omega arith; room = a.added.room };
    }
