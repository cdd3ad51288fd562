use Rattle.std.proofs.Common.{◌≡◌, ◌<◌, ℕ, length, refl, sym, ap, ◌∙◌, arith}
use Rattle.std.specs.Iterator.Adapters.{enumerate_source, enumerate_count}
use Rattle.std.specs.Slice.Iter.{chunks_exact_rest}
use Rattle.limits.specs.Limits.{record_size}
use Rattle.event_list.specs.Events.{events_of, wholes, record_ok}
use Rattle.event_list.proofs.EventLaws.{length-records, event_at, ok_next, none_left, ok_last}
use Rattle.grip.specs.OnAir.{is_on_air}
use Rattle.grip.specs.Marks.{marked_of}
use Rattle.grip.proofs.MarkLaws.{marked_start, marked_turn, marked_end}
use Rattle.grip.proofs.spans.mark_all.Goals as goal

pub loop-i-init : goal.loop-i-init
loop-i-init c =
    let a = c.args in
    let e = c.into_iter-i-iterator.ensures.into_iter_gives in
    let n = c.enumerate-i-items.ensures in
    let x = c.chunks_exact.ensures in
    rw (e, n.source, n.count, x.rest, x.size)
    (record { size = refl; many = omega arith; place = refl; tested = refl; marked = marked_start a.x (events_of a.«records».now) a.marks.now c.requires.1 })

pub mark-requires : goal.mark-requires
mark-requires c =
    let x = c.args.«records».now in
    let l = c.loop-i in
    let n = c.in-Some.ensures.steps in
    let s = n.0 in
    let at = event_at _ _ _ s.1.0 (s.1.1 ∙ l.invariant.size) (events_of x) _ l.invariant.place in
    omega (arith, at.0, n.1, length-records (wholes x) x, c.requires.0)

pub loop-i-preserved : goal.loop-i-preserved
loop-i-preserved c =
    let a = c.args in
    let x = a.«records».now in
    let es = events_of x in
    let l = c.loop-i in
    let n = c.in-Some.ensures.steps in
    let s = n.0 in
    let split = s.1.0 in
    let whole = s.1.1 ∙ l.invariant.size in
    let at = event_at _ _ _ split whole es _ l.invariant.place in
    let next = n.2 in
    rw next (record {
      size = s.0 ∙ l.invariant.size;
      many = omega (arith, at.0);
      place = at.2;
      tested = ok_next _ _ _ split whole l.ok _ _ (c.record_ok-ok.ensures ∙ ap record_ok c.new-event.ensures) l.invariant.tested;
      marked = marked_turn a.x es (enumerate_count l.i-iterator) l.marks c.mark.new.marks c.is_on_air.result (omega (arith, at.0, length-records (wholes x) x, c.requires.0))
          (c.is_on_air.ensures ∙ ap (is_on_air a.x) (c.new-event.ensures ∙ at.1)) (rw (← n.1) c.mark.ensures) l.invariant.marked;
    })

pub returns : goal.returns
returns c =
    let a = c.args in
    let x = a.«records».now in
    let es = events_of x in
    let l = c.loop-i in
    let h : length (chunks_exact_rest (enumerate_source l.i-iterator)) < record_size = omega (arith, c.in-None.ensures.steps.0.1.0, l.invariant.size) in
    let e : enumerate_count l.i-iterator ≡ length es = none_left _ h es (enumerate_count l.i-iterator) l.invariant.many l.invariant.place in
    let m : wholes x ≡ enumerate_count l.i-iterator = omega (arith, e, length-records (wholes x) x) in
    (ok_last _ h l.ok _ l.invariant.tested, ap (λ (k : ℕ). marked_of k l.marks) m ∙ marked_end a.x es _ l.marks e l.invariant.marked)
