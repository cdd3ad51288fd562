-- `next_tuning` of a state in order, on the readings held. Assumes nothing.
use Rattle.std.proofs.Common.{None, Some, Option, cond}
use mathlib.Core.Path.{◌≡◌, refl, sym, ap, ◌∙◌}
use mathlib.Core.Bool.{Bool, true, false, not}
use mathlib.Core.List.{List}
use Prim.Native.Nat.{ℕ, ◌≤◌, ◌<◌}
use native.Mathlib.Omega.{arith}
use borrow.Author.Tests.{ltb-false, not-false, le-leb, lt-leb}
use lib.Dec.{ltb}
use lib.ListN.{length, take}
use lib.Seq.{length-take-le}
use lib.Ieee.{Float}
use Rattle.limits.specs.Limits.{longest_stream}
use Rattle.limits.specs.Samples.{rate_ok}
use Rattle.limits.proofs.Samples.{and_right}
use Rattle.cfo.specs.Cfo.{round_hz}
use Rattle.frequency_signal.specs.Seconds.{Rate, quiet}
use Rattle.frequency_signal.specs.Order.{Index}
use Rattle.frequency_lists.specs.declared.Reading.{Reading}
use Rattle.frequency_lists.specs.Lists.{all_numbers, freqs, last_or}
use Rattle.frequency_measure.specs.Gathered.{Front}
use Rattle.frequency_measure.specs.Measured.{fewest, median}
use Rattle.frequency_tuning.specs.declared.Step.TheVariants.{Stay, Base, Settled}
use Rattle.frequency_tuning.specs.Steps.{waits, settled_by, target, asked, retunes, with_retuned}
use Rattle.frequency.specs.declared.FrequencyTracker.{FrequencyTracker}
use Rattle.frequency.specs.Lent.{Lists, tracker, packed}
use Rattle.frequency.specs.Order.{in_order, floats_ok, numbers_ok, cause_next}
use Rattle.frequency.specs.Tracker.{freq_of, settled_hz, step_of, next_tuning, after_tuning}
use Rattle.frequency.specs.Waiting.{Settling, settled_of, step_by}
use Rattle.frequency.proofs.Choices.{not_refused}
use Rattle.frequency.proofs.Ordered.{Ordered, Counts, rate_of, ordered_of, small_readings}

-- what an accepted call has
pub record Fine (s : FrequencyTracker) (l : Lists) (room : ℕ) : Type 0 where
  pub rate : Rate s.rate
  pub scratch : s.readings ≤ room
  pub ordered : Ordered s l
  pub numbers : all_numbers (take s.readings l.readings) ≡ true

pub fine : (s : FrequencyTracker) (l : Lists) (room : ℕ) → cause_next s l room ≡ 0 → Fine s l room
unfolding cause_next numbers_ok
fine s l room e =
    let a = not_refused 0 _ (not (rate_ok s.rate)) e in
    let b = not_refused 1 _ (ltb room s.readings) a.1 in
    let c = not_refused 4 _ (not (in_order s l)) b.1 in
    let d = not_refused 8 _ (not (numbers_ok s l.readings)) c.1 in
    record {
      rate = rate_of s.rate (not-false (rate_ok s.rate) a.0);
      scratch = ltb-false room s.readings b.0;
      ordered = ordered_of s l (not-false (in_order s l) c.0);
      numbers = and_right (floats_ok s) (all_numbers (take s.readings l.readings)) (not-false (numbers_ok s l.readings) d.0);
    }

pub settling_of : (s : FrequencyTracker) (l : Lists) (out : List Float) → Fine s l (length out) → Settling s (take s.readings l.readings) out
settling_of s l out f =
    let n = length-take-le s.readings l.readings f.ordered.r.places in
    let r = f.scratch in
    record {
      steady = record { rates = f.rate; stream = f.ordered.t.signals.stream; last = f.ordered.t.signals.last; from = f.ordered.t.signals.from };
      small = small_readings s l.readings f.ordered.r;
      room = omega arith;
      numbers = f.numbers;
    }

module _ (s : FrequencyTracker) (l : Lists) (o : Counts s l) where
  step_is : step_of (tracker s l) ≡ step_by s (take s.readings l.readings)
  unfolding step_of step_by settled_hz tracker
  step_is = refl

  pub next_is : next_tuning (tracker s l) ≡ target s.base_freq (last_or s.base_freq (freqs (take s.tunings l.tunings))) (step_by s (take s.readings l.readings))
  unfolding next_tuning freq_of tracker
  next_is = ap (target s.base_freq (last_or s.base_freq (freqs (take s.tunings l.tunings)))) step_is

  -- the state that `next_tuning` makes
  pub after_is : packed (after_tuning (tracker s l)) ≡ record {
    rate = s.rate;
    base_freq = s.base_freq;
    step_hz = s.step_hz;
    line_start = s.line_start;
    readings = s.readings;
    tunings = s.tunings;
    requested = asked (target s.base_freq (last_or s.base_freq (freqs (take s.tunings l.tunings))) (step_by s (take s.readings l.readings))) s.requested;
    signal = with_retuned s.signal (retunes (step_by s (take s.readings l.readings)) s.signal.retuned);
  }
  unfolding packed after_tuning tracker
  after_is = let a = next_is in let b = step_is in rw (a, b, length-take-le s.readings l.readings o.readings, length-take-le s.tunings l.tunings o.tunings) refl

-- ---- the settled readings, from what is gathered
module _ (s : FrequencyTracker) (held : List Reading) (out out' : List Float) (m : ℕ) (F : Front (settled_of s held) out m out') where
  pub too_few : m < fewest → settled_by (settled_of s held) ≡ Stay
  unfolding settled_by
  too_few h = let e = F.count in rw (lt-leb fewest (length (settled_of s held)) (omega arith)) refl

  pub settled : fewest ≤ m → (h : Float) (f : ℕ) → h ≡ median (take m out') → f ≡ round_hz h → Settled f ≡ settled_by (settled_of s held)
  unfolding settled_by
  settled k h f p q =
      let e = F.count in
      ap Settled (q ∙ ap round_hz (p ∙ ap median F.front)) ∙ sym (rw (le-leb fewest (length (settled_of s held)) (omega arith)) refl)

pub index_up : (n : ℕ) (s : Option ℕ) → n ≤ longest_stream → Index n s → Index longest_stream s
index_up n None h i = tt
index_up n (Some s) h i = omega arith

-- ---- the four ways
module _ (s : FrequencyTracker) (held : List Reading) where
  pub step-asked : (f : ℕ) → s.requested ≡ Some f → step_by s held ≡ Stay
  unfolding step_by
  step-asked f e = rw e refl

  module _ (e : s.requested ≡ None) where
    pub step-quiet : quiet s.rate s.signal.n s.signal.last_signal ≡ true → step_by s held ≡ Base
    unfolding step_by
    step-quiet q = rw (e, q) refl

    pub step_waits : quiet s.rate s.signal.n s.signal.last_signal ≡ false → waits s.rate s.signal ≡ true → step_by s held ≡ settled_by (settled_of s held)
    unfolding step_by
    step_waits q w = rw (e, q) (ap (λ (b : Bool). cond b (settled_by (settled_of s held)) Stay) w)

    pub step_stays : quiet s.rate s.signal.n s.signal.last_signal ≡ false → waits s.rate s.signal ≡ false → step_by s held ≡ Stay
    unfolding step_by
    step_stays q w = rw (e, q) (ap (λ (b : Bool). cond b (settled_by (settled_of s held)) Stay) w)
