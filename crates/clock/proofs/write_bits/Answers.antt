use Rattle.std.proofs.Common.{◌≡◌, ◌-◌, ◌<◌, ◌≤◌, set, ◌∷◌, length, sym, ◌∙◌, arith, length-set, append-nil}
use lib.Seq.{drop-length}
use Rattle.clock.specs.Walk.{walked, places}
use Rattle.clock.proofs.WalkLaws.{write_start, write-zero, write-one, write_end}
use Rattle.clock.proofs.write_bits.Goals.{Start, In-loop-j, then-on_point, else-on_point}
use Rattle.clock.proofs.write_bits.Goals as goal

same : (c : Start) → length (set c.args.bits.now 0 1) ≡ length c.args.bits.now
same c = length-set c.args.bits.now 0 1

pub bounds-bits-0 : goal.bounds-bits-0
bounds-bits-0 c = c.requires.0

pub loop-j-init : goal.loop-j-init
loop-j-init c =
    let a = c.args in
    write_start (places a.points.now) a.first _ a.bits.now (omega (arith, same (goal.at.loop-j-init c).Start, c.requires.0)) c.requires.0

pub overflow_sub-j : goal.overflow_sub-j
overflow_sub-j c = c.loop-j.invariant.begun

pub overflow_add-first : goal.overflow_add-first
overflow_add-first c = omega (arith, same (goal.at.overflow_add-first c).Start, c.requires.1, c.requires.2)

room : (c : In-loop-j) → c.loop-j.j < length c.loop-j.bits
room c = omega (arith, c.loop-j.invariant.size)

pub bounds-bits-j : goal.bounds-bits-j
bounds-bits-j c = room (goal.at.bounds-bits-j c).In-loop-j

pub overflow_add-p : goal.overflow_add-p
overflow_add-p c = omega (arith, c.loop-j.invariant.few, same (goal.at.overflow_add-p c).Start, c.requires.1)

pub bounds-bits-j-else-on_point : goal.bounds-bits-j-else-on_point
bounds-bits-j-else-on_point c = room (goal.at.bounds-bits-j-else-on_point c).In-loop-j

pub loop-j-preserved : goal.loop-j-preserved
loop-j-preserved c =
    let a = c.args in
    let points = places a.points.now in
    let s = set a.bits.now 0 1 in
    let k : length s ≤ length c.loop-j.bits = omega (arith, c.loop-j.invariant.size) in
    elim c.if-on_point.branch [
      | then-on_point w ↦ rw (w.bits-is, w.p-is) (write-zero points a.first (length s) s c.loop-j.p c.loop-j.j c.loop-j.bits c.loop-j.invariant (omega arith) k (sym c.on_point.ensures ∙ w.if-on_point.true))
      | else-on_point w ↦ rw (w.bits-is, w.p-is) (write-one points a.first (length s) s c.loop-j.p c.loop-j.j c.loop-j.bits c.loop-j.invariant (omega arith) k (sym c.on_point.ensures ∙ w.if-on_point.false))
    ]

pub returns : goal.returns
returns c =
    let a = c.args in
    let s = set a.bits.now 0 1 in
    write_end (places a.points.now) a.first (length s) s c.loop-j.p c.loop-j.j c.loop-j.bits c.loop-j.invariant (omega arith)
    ∙ rw (drop-length s, same (goal.at.returns c).Start) (append-nil (1 ∷ walked (places a.points.now) a.first (length a.bits.now - 1)))
