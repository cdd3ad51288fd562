use Rattle.std.proofs.Common.{◌≡◌, ℕ, ◌+◌, ◌≤◌, length, refl, sym, ap, ◌∙◌, subst, arith}
use lib.Dec.{ltb}
use lib.Seq.{length-take-le, sets}
use Rattle.limits.specs.Limits.{longest_stream}
use Rattle.frequency_lists.specs.Lists.{readings_from}
use Rattle.frequency.specs.Lent.{lists}
use Rattle.frequency.proofs.Listened.{Fine, fine, last_upto, new, cfo-state, cfo-lists}
use Rattle.frequency.proofs.read_line.Goals.{Start}
use Rattle.frequency.proofs.read_line.Goals as goal

good : (s : Start) → let a = s.args in Fine a.t.now (lists a.readings.now a.tunings.now) a.raw.now
good s = let a = s.args in fine a.t.now (lists a.readings.now a.tunings.now) a.raw.now s.requires

pub freq_of-f-requires : goal.freq_of-f-requires
freq_of-f-requires c = (good (goal.at.freq_of-f-requires c).Start).ordered.t.places

pub slice_bounds-last_tuned-end : goal.slice_bounds-last_tuned-end
slice_bounds-last_tuned-end c = sym (length-take-le c.args.t.now.tunings c.args.tunings.now (good (goal.at.slice_bounds-last_tuned-end c).Start).ordered.t.places)

pub invariant_of-start : goal.invariant_of-start
invariant_of-start c =
    let f = good (goal.at.invariant_of-start c).Start in
    let h = f.ordered.t.signals.upto in
    let m = f.ordered.t.signals.stream in
    record { right = f.rate; short = omega arith }

pub read_values-count-requires : goal.read_values-count-requires
read_values-count-requires c =
    let a = c.args in
    let f = good (goal.at.read_values-count-requires c).Start in
    (subst (λ (z : ℕ). z ≤ longest_stream) (sym c.last_tuned-last.ensures) (last_upto a.t.now (lists a.readings.now a.tunings.now) f.ordered), f.few, f.places)

pub returns : goal.returns
returns c =
    let a = c.args in
    let s = a.t.now in
    let l = lists a.readings.now a.tunings.now in
    let f = good (goal.at.returns c).Start in
    let y = c.read_values-count in
    let e : readings_from s.rate s.step_hz (ltb 1 s.tunings) c.last_tuned-last.result c.freq_of-f.result s.line_start a.raw.now ≡ new s l a.raw.now f = rw (c.last_tuned-last.ensures, c.freq_of-f.ensures) refl in
    record {
      refusal = sym c.requires;
      state = λ z. cfo-state s l a.raw.now f y.result (y.ensures.next ∙ ap (λ r. s.readings + length r) e) _ refl;
      lists = λ z. cfo-lists s l a.raw.now f y.new.readings (y.ensures.list ∙ ap (λ r. sets a.readings.now s.readings r) e);
      same_state = λ z. absurd (z refl);
      same_lists = λ z. absurd (z refl);
    }
