-- The claim of the tracker's exported calls: two calls of frame1, on trackers that were given such register values by `cfo`, keep to the bound. Assumes nothing.
use Rattle.std.specs.Prelude.{ℕ, ◌+◌, ◌≡◌, Bool, cond, ◌&&◌, List, [], ◌∷◌, ◌++◌, map, ltb, length, Float, Some, Ok}
use Rattle.frequency_signal.specs.Seconds.{settling, kept}
use Rattle.frequency_signal.specs.Heard.{heard}
use Rattle.frequency_lists.specs.declared.Tuning.{Tuning}
use Rattle.frequency_lists.specs.Lists.{cfo_every, last_or}
use Rattle.frequency_lists.specs.Marks.{retained}
use Rattle.record.specs.declared.FrameSpan.{FrameSpan}
use Rattle.frequency.specs.declared.FrequencyTracker.{FrequencyTracker}
use Rattle.frequency.specs.Lent.{Lists, tracker}
use Rattle.frequency.specs.Tracker as T
use Rattle.frequency.specs.Calls.{held_readings, Frame1End}
use Rattle.frequency.specs.Grown.{Grown, new, tuned, samples, cfo, next}
use Rattle.frequency.proofs.Contracts.{Contracts}
use Rattle.register_error.specs.Bound.{RawReading, step, reading_of, frame1_readings, ReadTwice, U32, DirectPath, Within, asked, least}

-- ---- the register values behind a tracker's readings

-- the readings that the tracker holds are those of these register values
abbrev pub Holds : FrequencyTracker → Lists → List RawReading → Type 0
Holds s l raw = held_readings s l.readings ≡ map reading_of raw

-- the values of a line that `cfo` makes readings of: one in 8 samples from `at` on, without those while a tuning settles
unfoldable pub raw_from : ℕ → Bool → ℕ → ℕ → ℕ → List ℕ → List RawReading
raw_from rate more since lo at [] = []
raw_from rate more since lo at (v ∷ vs) =
    let rest = raw_from rate more since lo (at + cfo_every) vs in
    cond (settling rate since at && more) rest (record { at = at; lo = lo; value = v } ∷ rest)

-- by the calls that a tracker has grown by: `cfo` adds those of its line, `samples` forgets the old ones
unfoldable pub raw_of : {s : FrequencyTracker} {l : Lists} → Grown s l → List RawReading
unfolding raw_from
raw_of (new rate base st l h e) = []
raw_of (tuned f ts h g c) = raw_of g
raw_of (samples {s} {t} {l} {m} dbm g c) =
    let u = tracker s l in
    retained (map (kept u.rate (heard u.rate u.signal dbm).n) (map (λ (r : RawReading). r.at) (raw_of g))) (raw_of g)
raw_of (cfo {s} {t} {l} {m} raw g c) =
    let u = tracker s l in
    raw_of g ++ raw_from u.rate (ltb 1 (length u.tunings)) (last_or 0 (map (λ (x : Tuning). x.at) u.tunings)) (T.freq_of u) u.line raw
raw_of (next out out' tune g c) = raw_of g

-- a tracker of the request's step, grown by whichever calls, holds the readings of the values that it was given
abbrev pub GrownHolds : Type 0
GrownHolds = (s : FrequencyTracker) (l : Lists) (g : Grown s l) → s.step_hz ≡ step → Holds s l (raw_of g) × U32 (raw_of g)

-- ---- two calls of frame1

-- a call, as frame1's contract has it, that answers a Hz by the direct path
pub record Called (s : FrequencyTracker) (l : Lists) (spans : List FrameSpan) (downlink : Bool) (a : ℕ) (out out' : List Float) : Type 0 where
  pub path : DirectPath s.rate (held_readings s l.readings) spans downlink
  pub call : Frame1End s spans downlink l.readings out (Ok (Some a)) out'

-- on any two trackers that hold readings of register values, given states too
abbrev pub CallsBound : ℕ → Type 0
CallsBound more = (d : ℕ) (s s' : FrequencyTracker) (l l' : Lists) (raw raw' : List RawReading) (spans spans' : List FrameSpan) (downlink downlink' : Bool) (a b : ℕ) (out out₁ out' out₁' : List Float)
    → Holds s l raw → Holds s' l' raw'
    → U32 raw → ReadTwice d (frame1_readings s.rate spans raw) (frame1_readings s'.rate spans' raw')
    → Called s l spans downlink a out out₁ → Called s' l' spans' downlink' b out' out₁'
    → Within more d a b

-- on any two trackers of the request's step that a client can have, by the values that they were given
abbrev pub TrackersBound : ℕ → Type 0
TrackersBound more = (d : ℕ) (s s' : FrequencyTracker) (l l' : Lists) (g : Grown s l) (g' : Grown s' l') (spans spans' : List FrameSpan) (downlink downlink' : Bool) (a b : ℕ) (out out₁ out' out₁' : List Float)
    → s.step_hz ≡ step → s'.step_hz ≡ step
    → ReadTwice d (frame1_readings s.rate spans (raw_of g)) (frame1_readings s'.rate spans' (raw_of g'))
    → Called s l spans downlink a out out₁ → Called s' l' spans' downlink' b out' out₁'
    → Within more d a b

-- the request's claim of the calls, and the sharper one
pub record CallClaims : Type 0 where
  -- `Grown` and `Called` are made of calls of the code: what its contracts tell a caller is this, and they ask nothing
  pub code : Contracts
  pub holds : GrownHolds
  pub given : CallsBound least
  pub request : TrackersBound asked
  pub sharpest : TrackersBound least
