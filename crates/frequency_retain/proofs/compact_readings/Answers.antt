use Rattle.std.proofs.Common.{◌≡◌, ℕ, ◌≤◌, ◌<◌, ◌^◌, map, get_or, sym, ap, ◌∙◌, subst, arith}
use Rattle.std.proofs.lemmas.List.{length-map}
use lib.Ieee.{nan}
use Rattle.frequency_lists.specs.declared.Reading.{Reading}
use Rattle.frequency_lists.specs.Lists.{ats}
use Rattle.frequency_lists.proofs.Gather.{map_at}
use Rattle.frequency_signal.specs.Seconds.{kept}
use Rattle.frequency_retain.proofs.Retaining.{ahead, none_yet, compact_turn, all_done, upto, mark_is, marks-size}
use Rattle.frequency_retain.proofs.compact_readings.Goals.{In-loop-i}
use Rattle.frequency_retain.proofs.compact_readings.Goals as goal

pub loop-i-init : goal.loop-i-init
loop-i-init c = none_yet c.args.readings.now

-- the reading ahead is still as it was
at_ahead : (c : In-loop-i) → (get_or c.loop-i.readings c.loop-i.i (record { at = 0; lo = 0; hz = nan })).at ≡ (get_or c.args.readings.now c.loop-i.i (record { at = 0; lo = 0; hz = nan })).at
at_ahead c =
    let a = c.args in
    let n = marks-size a.stream.rate a.stream.n a.readings.now in
    ap (λ (x : Reading). x.at) (ahead (map (kept a.stream.rate a.stream.n) (ats a.readings.now)) a.readings.now (record { at = 0; lo = 0; hz = nan }) (omega arith) c.loop-i.i c.loop-i.readings (omega arith) c.loop-i.invariant.list)

pub is_kept-requires : goal.is_kept-requires
is_kept-requires c =
    let l = c.args.readings.now in
    let s = c.requires c.loop-i.i (subst (λ (z : ℕ). c.loop-i.i < z) (sym (length-map l (λ (x : Reading). x.at))) (omega arith)) in
    let m = map_at (λ (x : Reading). x.at) l c.loop-i.i (record { at = 0; lo = 0; hz = nan }) 0 (omega arith) in
    (subst (λ (z : ℕ). z ≤ 2 ^ 41) (m ∙ sym (at_ahead (goal.at.is_kept-requires c).In-loop-i)) s)

pub put-w-requires : goal.put-w-requires
put-w-requires c = λ e.
    let a = c.args in
    let u = upto (map (kept a.stream.rate a.stream.n) (ats a.readings.now)) a.readings.now c.loop-i.i c.loop-i.w c.loop-i.readings c.loop-i.invariant in
    omega arith

pub loop-i-preserved : goal.loop-i-preserved
loop-i-preserved c =
    let a = c.args in
    let l = a.readings.now in
    let d : Reading = record { at = 0; lo = 0; hz = nan } in
    let n = marks-size a.stream.rate a.stream.n l in
    compact_turn (map (kept a.stream.rate a.stream.n) (ats l)) l d (omega arith) c.loop-i.i c.loop-i.w c.put-w.result c.is_kept.result c.loop-i.readings c.put-w.new.l (omega arith)
    (mark_is a.stream.rate a.stream.n l c.loop-i.i d (omega arith) ∙ ap (kept a.stream.rate a.stream.n) (sym (at_ahead (goal.at.loop-i-preserved c).In-loop-i)) ∙ sym c.is_kept.ensures)
    c.loop-i.invariant c.put-w.ensures.next c.put-w.ensures.list

pub returns : goal.returns
returns c =
    let a = c.args in
    let n = marks-size a.stream.rate a.stream.n a.readings.now in
    all_done (map (kept a.stream.rate a.stream.n) (ats a.readings.now)) a.readings.now c.loop-i.i c.loop-i.w c.loop-i.readings (omega arith) c.loop-i.invariant
