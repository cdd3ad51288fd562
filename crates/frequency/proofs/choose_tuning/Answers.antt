use Rattle.std.proofs.Common.{refl, sym, length}
use lib.Seq.{length-take-le}
use Rattle.frequency.specs.Lent.{lists}
use Rattle.frequency.proofs.Ordered.{counts_of}
use Rattle.frequency.proofs.Settled.{Fine, fine, settling_of, next_is, after_is}
use Rattle.frequency.proofs.choose_tuning.Goals.{Start}
use Rattle.frequency.proofs.choose_tuning.Goals as goal

good : (s : Start) → let a = s.args in Fine a.t.now (lists a.readings.now a.tunings.now) (length a.out.now)
good s = let a = s.args in fine a.t.now (lists a.readings.now a.tunings.now) (length a.out.now) s.requires

pub slice_bounds-step_of-end : goal.slice_bounds-step_of-end
slice_bounds-step_of-end c = sym (length-take-le c.args.t.now.readings c.args.readings.now (good (goal.at.slice_bounds-step_of-end c).Start).ordered.r.places)

pub step_of-step-requires : goal.step_of-step-requires
step_of-step-requires c =
    let a = c.args in settling_of a.t.now (lists a.readings.now a.tunings.now) a.out.now (good (goal.at.step_of-step-requires c).Start)

pub freq_of-now_hz-requires : goal.freq_of-now_hz-requires
freq_of-now_hz-requires c = (good (goal.at.freq_of-now_hz-requires c).Start).ordered.t.places

pub returns : goal.returns
returns c =
    let a = c.args in
    let s = a.t.now in
    let l = lists a.readings.now a.tunings.now in
    let o = counts_of s l (good (goal.at.returns c).Start).ordered in
    let x = c.step_of-step.ensures in
    let f = c.freq_of-now_hz.ensures in
    let t = c.target_of-tune.ensures in
    let r = c.retuned_by-t.ensures in
    let m = c.remember-t.ensures in
    record {
      refusal = sym c.requires;
      state = λ z. cc (after_is s l o, x, f, t, r, m);
      answer = λ z. cc (next_is s l o, x, f, t);
      same_state = λ z. absurd (z refl);
      no_answer = λ z. absurd (z refl);
      same_scratch = λ z. absurd (z refl);
    }
