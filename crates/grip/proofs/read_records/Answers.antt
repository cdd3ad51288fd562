use Rattle.std.proofs.Common.{◌≡◌, ◌<◌, length, refl, sym, ap, ◌∙◌, arith, length-append}
use Rattle.std.specs.Slice.Iter.{chunks_exact_rest}
use Rattle.limits.specs.Limits.{record_size}
use Rattle.event_list.specs.Events.{events_of}
use Rattle.grip.specs.declared.Best.{Best}
use Rattle.grip.specs.Reading.{looks, looked, read_part}
use Rattle.grip.proofs.NearLaws.{looks-next, looks-last, looked-count, part_ok}
use Rattle.grip.proofs.read_records.Goals as goal

pub loop-r-init : goal.loop-r-init
loop-r-init c =
    let e = c.into_iter-r-iterator.ensures.into_iter_gives in
    let x = c.chunks_exact-r-items.ensures in
    rw (e, x.rest, x.size) (record { size = refl; count = refl; looked = refl })

pub looked_at-best-requires : goal.looked_at-best-requires
looked_at-best-requires c =
    let l = c.loop-r in
    let s = c.in-Some.ensures.steps in
    let whole = s.1.1 ∙ l.invariant.size in
    let split = ap length s.1.0 ∙ length-append c.in-Some.r.now (chunks_exact_rest c.next.new.self) in
    omega (arith, split, whole, l.invariant.count, c.requires)

pub loop-r-preserved : goal.loop-r-preserved
loop-r-preserved c =
    let a = c.args in
    let l = c.loop-r in
    let s = c.in-Some.ensures.steps in
    let split = s.1.0 in
    let whole = s.1.1 ∙ l.invariant.size in
    let e = c.looked_at-best.ensures ∙ ap (looked a.grip a.within l.best) c.new.ensures in
    let n = ap (λ (b : Best). b.count) e ∙ looked-count a.grip a.within l.best c.in-Some.r.now in
    record {
      size = s.0 ∙ l.invariant.size;
      count = omega (arith, n, whole, ap length split, length-append c.in-Some.r.now (chunks_exact_rest c.next.new.self), l.invariant.count);
      looked = ap (λ (b : Best). looks a.grip a.within b (events_of (chunks_exact_rest c.next.new.self))) e ∙ sym (looks-next a.grip a.within _ _ _ split whole l.best) ∙ l.invariant.looked;
    }

pub returns : goal.returns
returns c =
    let a = c.args in
    let l = c.loop-r in
    let h : length (chunks_exact_rest l.r-iterator) < record_size = omega (arith, c.in-None.ensures.steps.1.0, l.invariant.size) in
    let e : l.best ≡ read_part a.grip a.within a.b a.records.now = sym (looks-last a.grip a.within _ h l.best) ∙ l.invariant.looked in
    (e, omega (arith, h, l.invariant.count), ap (λ (b : Best). b.ok) e ∙ part_ok a.grip a.within a.b a.records.now)
