use Rattle.std.specs.Prelude.{IfSome}
use Rattle.std.proofs.Common.{◌≡◌, ℕ, ◌+◌, ◌≤◌, length, take, map, refl, sym, ap, ◌∙◌, subst}
use lib.Seq.{length-take-le}
use Rattle.limits.specs.Limits.{longest_stream}
use Rattle.frequency_signal.specs.Seconds.{kept, oldest_of}
use Rattle.frequency_signal.specs.declared.Signal.{Signal}
use Rattle.frequency_signal.proofs.Hearing.{heard-n}
use Rattle.frequency_lists.specs.Lists.{ats, tuneds}
use Rattle.frequency_retain.specs.Retain.{stays, Leads, Compacted}
use Rattle.frequency.specs.Lent.{lists}
use Rattle.frequency.proofs.Ordered.{counts_of, small_readings, small_tunings}
use Rattle.frequency.proofs.Sampled.{Fine, made, fine, sampled-state, sampled-lists}
use Rattle.frequency.proofs.hear_line.Goals.{Start, After-hear_all-t}
use Rattle.frequency.proofs.hear_line.Goals as goal

good : (s : Start) → let a = s.args in Fine a.t.now (lists a.readings.now a.tunings.now) a.dbm.now
good s = let a = s.args in fine a.t.now (lists a.readings.now a.tunings.now) a.dbm.now s.requires.0

pub hear_all-t-requires : goal.hear_all-t-requires
hear_all-t-requires c = let f = good (goal.at.hear_all-t-requires c).Start in (f.rate, f.room, f.ordered.t.signals.last)

-- how many samples there are then
heard : (c : After-hear_all-t) → let a = c.args in c.hear_all-t.result.n ≡ a.t.now.signal.n + length a.dbm.now
heard c = ap (λ (z : Signal). z.n) c.hear_all-t.ensures ∙ heard-n c.args.t.now.rate c.args.t.now.signal c.args.dbm.now

pub invariant_of-stream : goal.invariant_of-stream
invariant_of-stream c =
    let f = good (goal.at.invariant_of-stream c).Start in
    let h = heard (goal.at.invariant_of-stream c).After-hear_all-t in
    record { right = f.rate; short = subst (λ (z : ℕ). z ≤ longest_stream) (sym h) f.room }

pub slice_bounds-held-end : goal.slice_bounds-held-end
slice_bounds-held-end c = (good (goal.at.slice_bounds-held-end c).Start).ordered.r.places

pub slice_bounds-held-end-2 : goal.slice_bounds-held-end-2
slice_bounds-held-end-2 c = sym (length-take-le c.args.t.now.readings c.args.readings.now (good (goal.at.slice_bounds-held-end-2 c).Start).ordered.r.places)

pub retain_looked-t-requires : goal.retain_looked-t-requires
retain_looked-t-requires c =
    let a = c.args in
    let f = good (goal.at.retain_looked-t-requires c).Start in
    let h = heard (goal.at.retain_looked-t-requires c).After-hear_all-t in (
      small_readings a.t.now a.readings.now f.ordered.r,
      subst (λ (z : ℕ). IfSome a.look (λ lead. Leads (oldest_of a.t.now.rate z) lead (ats (take a.t.now.readings a.readings.now)))) (sym h) c.requires.1,
    )

pub slice_bounds-retain_tunings-end : goal.slice_bounds-retain_tunings-end
slice_bounds-retain_tunings-end c = (good (goal.at.slice_bounds-retain_tunings-end c).Start).ordered.t.places

pub slice_bounds-retain_tunings-end-2 : goal.slice_bounds-retain_tunings-end-2
slice_bounds-retain_tunings-end-2 c = sym (length-take-le c.args.t.now.tunings c.args.tunings.now (good (goal.at.slice_bounds-retain_tunings-end-2 c).Start).ordered.t.places)

pub retain_tunings-t-requires : goal.retain_tunings-t-requires
retain_tunings-t-requires c =
    let a = c.args in
    let f = good (goal.at.retain_tunings-t-requires c).Start in
    small_tunings a.t.now a.tunings.now f.ordered.t

pub returns : goal.returns
returns c =
    let a = c.args in
    let s = a.t.now in
    let l = lists a.readings.now a.tunings.now in
    let o = counts_of s l (good (goal.at.returns c).Start).ordered in
    let e = c.hear_all-t.ensures in
    let x = c.retain_looked-t in
    let y = c.retain_tunings-t in
    let p = subst (λ (z : Signal). Compacted (map (kept s.rate z.n) (ats (take s.readings a.readings.now))) (take s.readings a.readings.now) x.result x.new.readings) e x.ensures in
    let q = subst (λ (z : Signal). Compacted (stays s.rate z.n (tuneds (take s.tunings a.tunings.now))) (take s.tunings a.tunings.now) y.result y.new.tunings) e y.ensures in
    record {
      refusal = sym c.requires.0;
      state = λ z. sampled-state s l o a.dbm.now x.result y.result _ _ p q _ (ap (λ (g : Signal). made s x.result y.result g) e);
      lists = λ z. sampled-lists s l o a.dbm.now x.result y.result _ _ p q;
      same_state = λ z. absurd (z refl);
      same_lists = λ z. absurd (z refl);
    }
