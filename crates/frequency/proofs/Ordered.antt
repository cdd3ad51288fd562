-- What the order rules tell, once they are passed. Assumes nothing.
use Rattle.std.proofs.Common.{Option, None, Some}
use mathlib.Core.Path.{◌≡◌, refl}
use mathlib.Core.Bool.{Bool, true, false, ◌&&◌}
use mathlib.Core.List.{List}
use Prim.Native.Nat.{ℕ, ◌+◌, ◌≤◌}
use native.Mathlib.Omega.{arith}
use borrow.Author.Tests.{leb-true}
use lib.Dec.{leb}
use lib.ListN.{length, take}
use Rattle.limits.specs.Limits.{longest_stream}
use Rattle.limits.specs.Samples.{rate_ok}
use Rattle.limits.proofs.Samples.{and_left, and_right, rate-low, rate-high}
use Rattle.frequency_signal.specs.declared.Signal.{Signal}
use Rattle.frequency_signal.specs.Order.{Index, index_ok, signal_ok}
use Rattle.frequency_signal.specs.Seconds.{Rate}
use Rattle.frequency_lists.specs.declared.Reading.{Reading}
use Rattle.frequency_lists.specs.declared.Tuning.{Tuning}
use Rattle.frequency_lists.specs.Lists.{Small, read_up_to, tuned_up_to, ats, tuneds, fits_readings, fits_tunings}
use Rattle.frequency_lists.proofs.Every.{read_at, tuned_at}
use Rattle.frequency.specs.declared.FrequencyTracker.{FrequencyTracker}
use Rattle.frequency.specs.Lent.{Lists}
use Rattle.frequency.specs.Order.{ahead, tunings_in_order, readings_in_order, in_order}

pub rate_of : (rate : ℕ) → rate_ok rate ≡ true → Rate rate
rate_of rate e = (rate-low rate e, rate-high rate e)

index_of : (n : ℕ) (s : Option ℕ) → index_ok n s ≡ true → Index n s
index_of n None e = tt
index_of n (Some s) e = leb-true s n e

pub record Signals (line : ℕ) (s : Signal) : Type 0 where
  pub stream : s.n ≤ longest_stream
  pub upto : line ≤ s.n
  pub last : Index s.n s.last_signal
  pub from : Index s.n s.frame_from

pub signals_of : (line : ℕ) (s : Signal) → signal_ok line s ≡ true → Signals line s
signals_of line s f =
    let n = s.n in
    let p = leb n longest_stream in
    let q = leb line n in
    let x = index_ok n s.last_signal in
    let y = index_ok n s.frame_from in
    let f₁ : (q && (x && y)) ≡ true = and_right p (q && (x && y)) f in
    let f₂ : (x && y) ≡ true = and_right q (x && y) f₁ in
    record {
      stream = leb-true n longest_stream (and_left p (q && (x && y)) f);
      upto = leb-true line n (and_left q (x && y) f₁);
      last = index_of n s.last_signal (and_left x y f₂);
      from = index_of n s.frame_from (and_right x y f₂);
    }

-- a state in order
pub record OrderedT (s : FrequencyTracker) (ts : List Tuning) : Type 0 where
  pub signals : Signals s.line_start s.signal
  pub places : s.tunings ≤ length ts
  pub indices : tuned_up_to s.signal.n (take s.tunings ts) ≡ true

pub ordered-t : (s : FrequencyTracker) (ts : List Tuning) → tunings_in_order s ts ≡ true → OrderedT s ts
unfolding tunings_in_order
ordered-t s ts e =
    let a = signal_ok s.line_start s.signal in
    let b = fits_tunings s.tunings ts in
    let c = tuned_up_to s.signal.n (take s.tunings ts) in
    let e₁ : (b && c) ≡ true = and_right a (b && c) e in
    record {
      signals = signals_of s.line_start s.signal (and_left a (b && c) e);
      places = leb-true s.tunings (length ts) (and_left b c e₁);
      indices = and_right b c e₁;
    }

pub record OrderedR (s : FrequencyTracker) (rs : List Reading) : Type 0 where
  pub signals : Signals s.line_start s.signal
  pub places : s.readings ≤ length rs
  pub indices : read_up_to (s.signal.n + ahead) (take s.readings rs) ≡ true

pub ordered-r : (s : FrequencyTracker) (rs : List Reading) → readings_in_order s rs ≡ true → OrderedR s rs
unfolding readings_in_order
ordered-r s rs e =
    let a = signal_ok s.line_start s.signal in
    let b = fits_readings s.readings rs in
    let c = read_up_to (s.signal.n + ahead) (take s.readings rs) in
    let e₁ : (b && c) ≡ true = and_right a (b && c) e in
    record {
      signals = signals_of s.line_start s.signal (and_left a (b && c) e);
      places = leb-true s.readings (length rs) (and_left b c e₁);
      indices = and_right b c e₁;
    }

pub record Ordered (s : FrequencyTracker) (l : Lists) : Type 0 where
  pub t : OrderedT s l.tunings
  pub r : OrderedR s l.readings

pub ordered_of : (s : FrequencyTracker) (l : Lists) → in_order s l ≡ true → Ordered s l
ordered_of s l e =
    let a = tunings_in_order s l.tunings in
    let b = readings_in_order s l.readings in
    record { t = ordered-t s l.tunings (and_left a b e); r = ordered-r s l.readings (and_right a b e) }

-- the places alone
pub record Counts (s : FrequencyTracker) (l : Lists) : Type 0 where
  pub readings : s.readings ≤ length l.readings
  pub tunings : s.tunings ≤ length l.tunings

pub counts_of : (s : FrequencyTracker) (l : Lists) → Ordered s l → Counts s l
counts_of s l o = record { readings = o.r.places; tunings = o.t.places }

pub small_readings : (s : FrequencyTracker) (rs : List Reading) → OrderedR s rs → Small (ats (take s.readings rs))
small_readings s rs o i h =
    let b = read_at (s.signal.n + ahead) (take s.readings rs) o.indices i h in
    let m = o.signals.stream in
    omega arith

pub small_tunings : (s : FrequencyTracker) (ts : List Tuning) → OrderedT s ts → Small (tuneds (take s.tunings ts))
small_tunings s ts o i h =
    let b = tuned_at s.signal.n (take s.tunings ts) o.indices i h in
    let m = o.signals.stream in
    omega arith

-- the order of the tunings, with room for the readings, is the whole where a look has settled the readings' indices
pub both_ordered : (t : FrequencyTracker) (rs : List Reading) (ts : List Tuning) (a b : Bool) → a ≡ tunings_in_order t ts → b ≡ fits_readings t.readings rs
    → read_up_to (t.signal.n + ahead) (take t.readings rs) ≡ true → (a && b) ≡ (tunings_in_order t ts && readings_in_order t rs)
unfolding tunings_in_order readings_in_order
both_ordered t rs ts a b e f u =
    rw (e, f, u) (go (signal_ok t.line_start t.signal) (fits_tunings t.tunings ts && tuned_up_to t.signal.n (take t.tunings ts)) (fits_readings t.readings rs))
  where
    go : (s x y : Bool) → ((s && x) && y) ≡ ((s && x) && (s && (y && true)))
    go false x y = refl
    go true false y = refl
    go true true false = refl
    go true true true = refl
