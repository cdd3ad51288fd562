-- What each exported call of the tracker says of its answer and of what it was lent. Assumes nothing.
use Rattle.std.specs.Prelude.{ℕ, ◌≤◌, ◌≡◌, Bool, false, List, length, take, Float, Option, None, Result, Ok, Err}
use Rattle.limits.specs.declared.Refusal.{Refusal}
use Rattle.limits.specs.Answer.{Answer, said, answer, Free}
use Rattle.limits.specs.Refusals.{number_of}
use Rattle.frequency_lists.specs.declared.Reading.{Reading}
use Rattle.frequency_lists.specs.declared.Tuning.{Tuning}
use Rattle.frequency_lists.specs.Lists.{freqs, last_or}
use Rattle.frequency_measure.specs.declared.FrameFrequency.{FrameFrequency}
use Rattle.record.specs.declared.FrameSpan.{FrameSpan}
use Rattle.frequency_measure.specs.Measured.{frame_frequency, frame1}
use Rattle.record.specs.Spans.{span_ok, spans_ok}
use Rattle.frequency.specs.declared.FrequencyTracker.{FrequencyTracker}
use Rattle.frequency.specs.declared.RefusedTracker.{RefusedTracker}
use Rattle.frequency.specs.Lent.{Lists, lists, tracker, packed, stored}
use Rattle.frequency.specs.Order.{cause_freq, cause_tuned, cause_samples, cause_cfo, cause_next, cause_frame}
use Rattle.frequency.specs.Tracker.{Tracker, tuned, samples, cfo, next_tuning, after_tuning}

-- a call's end: the number of its cause; accepted, the tracker u; refused, all as it was
pub record Ends (cause : ℕ) (u : Tracker) (s : FrequencyTracker) (l : Lists) (r : ℕ) (t : FrequencyTracker) (m : Lists) : Type 0 where
  pub refusal : r ≡ cause
  pub state : r ≡ 0 → t ≡ packed u
  pub lists : r ≡ 0 → m ≡ stored u l
  pub same_state : (r ≡ 0 → ⊥) → t ≡ s
  pub same_lists : (r ≡ 0 → ⊥) → m ≡ l

abbrev pub SamplesEnd : FrequencyTracker → List Float → Lists → ℕ → FrequencyTracker → Lists → Type 0
SamplesEnd s dbm l r t m = Ends (cause_samples s l dbm) (samples (tracker s l) dbm) s l r t m

abbrev pub CfoEnd : FrequencyTracker → List ℕ → Lists → ℕ → FrequencyTracker → Lists → Type 0
CfoEnd s raw l r t m = Ends (cause_cfo s l raw) (cfo (tracker s l) raw) s l r t m

-- tuned has the list of tunings alone: whatever readings stand beside it, they and the tunings are the definition's
pub record TunedEnd (s : FrequencyTracker) (f : ℕ) (ts : List Tuning) (r : ℕ) (t : FrequencyTracker) (ts' : List Tuning) : Type 0 where
  pub refusal : r ≡ cause_tuned s ts f
  pub state : r ≡ 0 → (rs : List Reading) → s.readings ≤ length rs → t ≡ packed (tuned (tracker s (lists rs ts)) f)
  pub lent : r ≡ 0 → (rs : List Reading) → s.readings ≤ length rs → lists rs ts' ≡ stored (tuned (tracker s (lists rs ts)) f) (lists rs ts)
  pub same_state : (r ≡ 0 → ⊥) → t ≡ s
  pub same_lent : (r ≡ 0 → ⊥) → ts' ≡ ts

-- next_tuning: the lists are only read, and the scratch is free where the call is accepted
pub record NextEnd (s : FrequencyTracker) (l : Lists) (out : List Float) (r : ℕ) (t : FrequencyTracker) (tune : (Option ℕ)) (out' : List Float) : Type 0 where
  pub refusal : r ≡ cause_next s l (length out)
  pub state : r ≡ 0 → t ≡ packed (after_tuning (tracker s l))
  pub answer : r ≡ 0 → tune ≡ next_tuning (tracker s l)
  pub same_state : (r ≡ 0 → ⊥) → t ≡ s
  pub no_answer : (r ≡ 0 → ⊥) → tune ≡ None
  pub same_scratch : (r ≡ 0 → ⊥) → out' ≡ out

-- where a call of next_tuning tunes to: nowhere where it is refused
abbrev pub tune_of : Result (Option ℕ) Refusal → Option ℕ
tune_of (Ok tune) = tune
tune_of (Err e) = None

-- freq: the receiver frequency
abbrev pub freq_answer : FrequencyTracker → List Tuning → Answer ℕ
freq_answer s ts = answer (cause_freq s ts) (last_or s.base_freq (freqs (take s.tunings ts)))

abbrev pub held_readings : FrequencyTracker → List Reading → List Reading
held_readings s rs = take s.readings rs

-- frame_frequency: the frequency and the receiver's, or none
abbrev pub frame_answer : FrequencyTracker → List Reading → ℕ → FrameSpan → Answer (Option FrameFrequency)
frame_answer s rs room f = answer (cause_frame s rs room (span_ok f)) (frame_frequency s.rate (held_readings s rs) f.time f.end)

pub record FrameEnd (s : FrequencyTracker) (f : FrameSpan) (rs : List Reading) (out : List Float) (r : Result (Option FrameFrequency) Refusal) (out' : List Float) : Type 0 where
  pub says : said r ≡ frame_answer s rs (length out) f
  pub scratch : Free (cause_frame s rs (length out) (span_ok f)) out out'

-- frame1: the frequency, or none
abbrev pub frame1_answer : FrequencyTracker → List Reading → ℕ → List FrameSpan → Bool → Answer (Option ℕ)
frame1_answer s rs room spans downlink = answer (cause_frame s rs room (spans_ok spans)) (frame1 s.rate (held_readings s rs) spans downlink)

pub record Frame1End (s : FrequencyTracker) (spans : List FrameSpan) (downlink : Bool) (rs : List Reading) (out : List Float) (r : Result (Option ℕ) Refusal) (out' : List Float) : Type 0 where
  pub says : said r ≡ frame1_answer s rs (length out) spans downlink
  pub scratch : Free (cause_frame s rs (length out) (spans_ok spans)) out out'

-- a tracker that has heard nothing
abbrev pub fresh : ℕ → ℕ → Float → FrequencyTracker
fresh rate base step = record {
  rate = rate;
  base_freq = base;
  step_hz = step;
  line_start = 0;
  readings = 0;
  tunings = 0;
  requested = None;
  signal = record { n = 0; floor = None; frame_from = None; last_signal = None; retuned = false };
}

-- what new answers with, accepted or refused: the number, and the tracker
unfoldable pub cause_of_new : Result FrequencyTracker RefusedTracker → ℕ
cause_of_new (Ok t) = 0
cause_of_new (Err e) = number_of e.refusal

abbrev pub tracker_of : Result FrequencyTracker RefusedTracker → FrequencyTracker
tracker_of (Ok t) = t
tracker_of (Err e) = e.tracker
