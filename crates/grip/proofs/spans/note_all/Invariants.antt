use mathlib.Core.Path.{◌≡◌}
use lib.ListN.{length}
use lib.Seq.{sets}
use Rattle.grip.specs.Marks.{marked_of}
use Rattle.grip.proofs.spans.note_all.Given as goal

abbrev pub invariant-loop-i : goal.invariant-loop-i
invariant-loop-i l = (length l.numbers ≡ length l.initial.numbers) × (l.n ≡ length (marked_of l.i l.marks)) × (l.numbers ≡ sets l.initial.numbers 0 (marked_of l.i l.marks))
