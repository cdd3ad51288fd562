use Rattle.std.proofs.Common.{◌≡◌, ◌+◌, ◌<◌, ℕ, [], ◌∷◌, length, refl, ap, ◌∙◌, subst, arith, length-append}
use Rattle.std.specs.Slice.Iter.{chunks_exact_rest}
use Rattle.limits.specs.Limits.{record_size}
use Rattle.limits.proofs.Samples.{and_assoc}
use Rattle.event_list.specs.Events.{wholes, record_ok}
use Rattle.event_list.proofs.EventLaws.{ok_next, ok_last}
use Rattle.subscription.specs.Counting.{Few, inside, stepped}
use Rattle.subscription.proofs.CountLaws.{few_none, few-turn, within_next, tallied_next, within_last, tallied_last}
use Rattle.subscription.proofs.read_records.Goals as goal

pub loop-r-init : goal.loop-r-init
loop-r-init c =
    let e = c.into_iter-r-iterator.ensures.into_iter_gives in
    let x = c.chunks_exact-r-items.ensures in
    rw (e, x.rest, x.size) (record {
      size = refl;
      count = omega arith;
      tested = and_assoc c.args.t.ok _ _;
      inside = refl;
      tally = refl;
      few = few_none c.args.counts.now c.args.t.«records» c.requires.2;
    })

pub counted-inside-requires : goal.counted-inside-requires
counted-inside-requires c =
    let l = c.loop-r in
    let s = c.in-Some.ensures.steps in
    let f = l.invariant.few in
    let whole = s.1.1 ∙ l.invariant.size in
    let split = ap length s.1.0 ∙ length-append c.in-Some.r.now _ in
    (c.requires.1, record { size = f.size; under = λ j. omega (arith, f.under j, c.requires.0, l.invariant.count) })

pub loop-r-preserved : goal.loop-r-preserved
loop-r-preserved c =
    let a = c.args in
    let l = c.loop-r in
    let k = c.counted-inside in
    let s = c.in-Some.ensures.steps in
    let split = s.1.0 in
    let whole = s.1.1 ∙ l.invariant.size in
    let many = length-append l.yielded (c.in-Some.r ∷ []) in
    record {
      size = s.0 ∙ l.invariant.size;
      count = omega (arith, many, whole, ap length split, length-append c.in-Some.r.now (chunks_exact_rest c.next.new.self), l.invariant.count);
      tested = ok_next _ _ _ split whole l.ok _ _ (c.record_ok-right.ensures ∙ ap record_ok c.new-event.ensures) l.invariant.tested;
      inside = within_next a.start _ _ _ split whole l.within _ _ (k.ensures.0 ∙ ap (inside a.start) c.new-event.ensures) l.invariant.inside;
      tally = tallied_next a.start _ _ _ split whole l.counts _ _ (k.ensures.1 ∙ ap (stepped a.start l.counts) c.new-event.ensures) l.invariant.tally;
      few = rw many (few-turn a.start l.counts c.in-Some.r.now _ a.t.«records» (length l.yielded) (k.ensures.1 ∙ ap (stepped a.start l.counts) c.new-event.ensures) l.invariant.few);
    }

pub returns : goal.returns
returns c =
    let a = c.args in
    let l = c.loop-r in
    let h : length (chunks_exact_rest l.r-iterator) < record_size = omega (arith, c.in-None.ensures.steps.1.0, l.invariant.size) in
    let n : length l.yielded ≡ wholes a.«records».now = omega (arith, h, l.invariant.count) in (
      refl,
      ok_last _ h l.ok _ l.invariant.tested,
      within_last a.start _ h l.within _ l.invariant.inside,
      tallied_last a.start _ h l.counts _ l.invariant.tally,
      subst (λ (n : ℕ). Few l.counts (a.t.«records» + n)) n l.invariant.few,
    )
