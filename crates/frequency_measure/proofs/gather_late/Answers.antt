use Rattle.std.proofs.Common.{ℕ, ◌+◌, ◌≤◌, ◌<◌, ◌^◌, Bool, cond, refl, sym, ap, ◌∙◌, subst, arith, List}
use Rattle.std.proofs.lemmas.List.{length-map}
use Rattle.frequency_lists.specs.declared.Reading.{Reading}
use Rattle.frequency_lists.specs.Lists.{hzs}
use Rattle.frequency_lists.specs.Marks.{retained}
use Rattle.frequency_lists.proofs.Gather.{map_at, map-map}
use Rattle.frequency_signal.specs.Seconds.{late}
use Rattle.frequency_measure.specs.Gathered.{Front}
use Rattle.frequency_measure.proofs.Frames.{gathers_turn, gathers_end}
use Rattle.frequency_measure.proofs.gather_late.Goals as goal

pub is_late-requires : goal.is_late-requires
is_late-requires c =
    let l = c.args.readings.now in
    let i = c.loop-x.x-index in
    let s = c.requires.1 i (subst (λ (z : ℕ). i < z) (sym (length-map l (λ (x : Reading). x.at))) c.loop-x-test.true) in
    (c.requires.0, subst (λ (z : ℕ). z ≤ 2 ^ 41) (map_at (λ (x : Reading). x.at) l i _ 0 c.loop-x-test.true) s)

pub loop-x-preserved : goal.loop-x-preserved
loop-x-preserved c =
    let a = c.args in
    let l = c.loop-x in
    let y = c.is_late.ensures in
    gathers_turn (λ (x : Reading). late a.pace.rate a.from x.at) a.readings.now a.out.now l.x-index l.w c.put-w.result _ l.out c.put-w.new.l c.loop-x-test.true c.requires.2 l.invariant
    (c.put-w.ensures.next ∙ ap (λ (b : Bool). cond b (l.w + 1) l.w) y) (c.put-w.ensures.list ∙ rw y refl)

pub returns : goal.returns
returns c =
    let a = c.args in
    let h = c.requires.2 in
    subst (λ (z : List Bool). Front (hzs (retained z a.readings.now)) a.out.now c.loop-x.w c.loop-x.out) (map-map (λ (x : Reading). x.at) (late a.pace.rate a.from) a.readings.now)
    (gathers_end (λ (x : Reading). late a.pace.rate a.from x.at) a.readings.now a.out.now c.loop-x.x-index c.loop-x.w c.loop-x.out (omega arith) (omega arith) c.loop-x.invariant)
