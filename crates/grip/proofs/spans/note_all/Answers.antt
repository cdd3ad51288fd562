use mathlib.Core.Path.{◌≡◌, refl, ap, ◌∙◌}
use mathlib.Core.Bool.{Bool}
use mathlib.Core.List.{List}
use Prim.Native.Nat.{ℕ, ◌+◌}
use native.Mathlib.Omega.{arith}
use lib.ListN.{length}
use lib.Seq.{sets, length-sets}
use Rattle.grip.specs.Marks.{mark_at, number_if, marked_of}
use Rattle.grip.proofs.MarkLaws.{marked-le, start, next-count, next-list}
use Rattle.grip.proofs.spans.note_all.Goals as goal

pub loop-i-init : goal.loop-i-init
loop-i-init c =
    let a = c.args in
    let g = start a.marks.now a.numbers.now in
    (refl, g.0, g.1)

pub note-n-requires : goal.note-n-requires
note-n-requires c =
    let a = c.args in
    let l = c.loop-i in
    omega (arith, marked-le a.marks.now l.i, l.invariant.0, l.invariant.1, c.requires.1)

pub loop-i-preserved : goal.loop-i-preserved
loop-i-preserved c =
    let a = c.args in
    let l = c.loop-i in
    let m = a.marks.now in
    let k = c.note-n in
    let w = number_if (mark_at m l.i) l.i in
    let e = ap (λ (t : Bool). number_if t l.i) c.is_marked-marked.ensures in
    let t = k.ensures.1 ∙ ap (sets l.numbers l.n) e in (
      ap length t ∙ length-sets l.numbers l.n w ∙ l.invariant.0,
      next-count m l.i l.n l.invariant.1 k.result (k.ensures.0 ∙ ap (λ (v : List ℕ). l.n + length v) e),
      next-list m l.i l.n l.invariant.1 a.numbers.now l.numbers k.new.numbers l.invariant.2 t,
    )

pub returns : goal.returns
returns c =
    let a = c.args in
    let l = c.loop-i in
    let e : marked_of l.i a.marks.now ≡ marked_of a.count a.marks.now = ap (λ (k : ℕ). marked_of k a.marks.now) (omega arith) in
    (l.invariant.1 ∙ ap length e, l.invariant.2 ∙ ap (sets a.numbers.now 0) e)
