use Rattle.std.proofs.Common.{◌≡◌, ℕ, ◌+◌, ◌≤◌, ◌^◌, true, cond, eqb, length, get_or, sym, ap, ◌∙◌, subst, arith}
use Rattle.std.proofs.lemmas.List.{length-map}
use Rattle.frequency_lists.specs.declared.Tuning.{Tuning}
use Rattle.frequency_lists.specs.Lists.{tuneds}
use Rattle.frequency_lists.proofs.Gather.{map_get}
use Rattle.frequency_signal.specs.Seconds.{kept}
use Rattle.frequency_retain.specs.Retain.{stays}
use Rattle.frequency_retain.proofs.Retaining.{beyond, none_yet, compact_turn, all_done, upto, stays-size, stays_is}
use Rattle.frequency_retain.proofs.retain_tunings.Goals.{In-loop-i}
use Rattle.frequency_retain.proofs.retain_tunings.Goals as goal

pub loop-i-init : goal.loop-i-init
unfolding stays
loop-i-init c = none_yet c.args.tunings.now

-- the indices ahead are still as they were
next_ahead : (c : In-loop-i) → get_or (tuneds c.loop-i.tunings) (c.loop-i.i + 1) 0 ≡ get_or (tuneds c.args.tunings.now) (c.loop-i.i + 1) 0
next_ahead c =
    let a = c.args in
    let n = stays-size a.stream.rate a.stream.n a.tunings.now in
    let none : Tuning = record { at = 0; freq = 0 } in
    let at : Tuning → ℕ = λ (u : Tuning). u.at in
    map_get at c.loop-i.tunings (c.loop-i.i + 1) none
    ∙ ap at (beyond (stays a.stream.rate a.stream.n (tuneds a.tunings.now)) a.tunings.now none (omega arith) c.loop-i.i (c.loop-i.i + 1) c.loop-i.tunings (omega arith) (omega arith) c.loop-i.invariant.list)
    ∙ sym (map_get at a.tunings.now (c.loop-i.i + 1) none)

pub tuning_stays-keep-requires : goal.tuning_stays-keep-requires
tuning_stays-keep-requires c =
    let n = length-map c.args.tunings.now (λ (u : Tuning). u.at) in
    (omega arith, λ h. subst (λ (z : ℕ). z ≤ 2 ^ 41) (sym (next_ahead (goal.at.tuning_stays-keep-requires c).In-loop-i)) (c.requires (c.loop-i.i + 1) (omega arith)))

pub put-w-requires : goal.put-w-requires
put-w-requires c = λ e.
    let a = c.args in
    let u = upto (stays a.stream.rate a.stream.n (tuneds a.tunings.now)) a.tunings.now c.loop-i.i c.loop-i.w c.loop-i.tunings c.loop-i.invariant in
    omega arith

pub loop-i-preserved : goal.loop-i-preserved
loop-i-preserved c =
    let a = c.args in
    let l = a.tunings.now in
    let n = stays-size a.stream.rate a.stream.n l in
    compact_turn (stays a.stream.rate a.stream.n (tuneds l)) l (record { at = 0; freq = 0 }) (omega arith) c.loop-i.i c.loop-i.w c.put-w.result c.tuning_stays-keep.result c.loop-i.tunings c.put-w.new.l (omega arith)
    (stays_is a.stream.rate a.stream.n l c.loop-i.i (omega arith)
    ∙ ap (λ (z : ℕ). cond (eqb (c.loop-i.i + 1) (length l)) true (kept a.stream.rate a.stream.n z)) (sym (next_ahead (goal.at.loop-i-preserved c).In-loop-i))
    ∙ ap (λ (z : ℕ). cond (eqb (c.loop-i.i + 1) z) true (kept a.stream.rate a.stream.n (get_or (tuneds c.loop-i.tunings) (c.loop-i.i + 1) 0))) (sym c.loop-i.auto.tunings)
    ∙ sym c.tuning_stays-keep.ensures)
    c.loop-i.invariant c.put-w.ensures.next c.put-w.ensures.list

pub returns : goal.returns
returns c =
    let a = c.args in
    let n = stays-size a.stream.rate a.stream.n a.tunings.now in
    all_done (stays a.stream.rate a.stream.n (tuneds a.tunings.now)) a.tunings.now c.loop-i.i c.loop-i.w c.loop-i.tunings (omega arith) c.loop-i.invariant
