-- Change request 14, how far an error of the register can move frame 1's frequency: 'At the step of 122.0703125 Hz the two answers differ by at most d×1562500/11904 + 2 Hz.'
-- What is assumed: `ReadTwice`, `Answers`. What follows: `Within`. The claim: `Bound`. Readings and answers are by the definitions that `cfo`, `frame_frequency` and `frame1` are proved equal to. Assumes nothing.
use Rattle.std.specs.Prelude.{ℕ, ◌+◌, ◌*◌, ◌^◌, ◌≤◌, ◌<◌, ◌≡◌, Bool, cond, List, [], ◌∷◌, map, eqb, ℤ, pos, ◌-ℤ◌, nat_abs, Float, Some}
use Rattle.floats.specs.Number.{near}
use Rattle.cfo.specs.Cfo.{signed, reading_hz}
use Rattle.frequency_lists.specs.declared.Reading.{Reading}
use Rattle.frequency_lists.specs.Lists.{last_or}
use Rattle.frequency_lists.specs.Marks.{retained}
use Rattle.frequency_measure.specs.Measured.{first_of, past_of, inside, direct, of_rank, frame1}
use Rattle.record.specs.declared.FrameSpan.{FrameSpan}

-- ---- register values, and the readings in Hz that `cfo` makes of them

-- a register value as it was read: at which sample, against which receiver frequency (Hz), which 12 bits
pub record RawReading : Type 0 where
  pub at : ℕ
  pub lo : ℕ
  pub value : ℕ

-- 'the step of 122.0703125 Hz'; binary64 has it exactly
abbrev pub step : Float
step = near 1220703125 10000000

-- cfo's Reading { at, lo, hz }: hz = lo + signed value × step / 0.93 in binary64, each operation rounded
abbrev pub reading_of : RawReading → Reading
reading_of r = record { at = r.at; lo = r.lo; hz = reading_hz r.lo r.value step }

-- ---- the readings that frame 1's frequency is the median of

-- frame_frequency's in_frame: from SETTLE_S after the frame's start up to its end
unfoldable pub in_frame : ℕ → FrameSpan → List RawReading → List RawReading
in_frame rate f raw = retained (map (λ (r : RawReading). inside (first_of rate f.time) (past_of rate f.end) r.at) raw) raw

-- its filter r.lo == lo: those against the receiver frequency of the last one
unfoldable pub against_last : List RawReading → List RawReading
against_last [] = []
against_last (x ∷ l) = retained (map (λ (r : RawReading). eqb r.lo (last_or x.lo (map (λ (r : RawReading). r.lo) l))) (x ∷ l)) (x ∷ l)

-- of frame 1, the first span of rank 0
unfoldable pub frame1_readings : ℕ → List FrameSpan → List RawReading → List RawReading
unfolding in_frame against_last
frame1_readings rate [] raw = []
frame1_readings rate (f ∷ spans) raw = cond (eqb f.rank 0) (against_last (in_frame rate f raw)) (frame1_readings rate spans raw)

-- ---- what is assumed: 'a frame read twice', and an answer both times

-- |x − y|
abbrev pub distance : ℤ → ℤ → ℕ
distance x y = nat_abs (x -ℤ y)

-- 'against the same receiver frequency, where corresponding signed register values differ by at most d steps'
pub record Corresponding (d : ℕ) (x y : RawReading) : Type 0 where
  pub same : x.lo ≡ y.lo
  pub close : distance (signed x.value) (signed y.value) ≤ d

-- first with first, second with second, to the end of both lists: so 'the same number of readings'
pub data Pairwise (R : RawReading → RawReading → Type 0) : List RawReading → List RawReading → Type 0 where
  end : Pairwise R [] []
  next : {x y : RawReading} {l m : List RawReading} → R x y → Pairwise R l m → Pairwise R (x ∷ l) (y ∷ m)

-- 'a frame read twice'
abbrev pub ReadTwice : ℕ → List RawReading → List RawReading → Type 0
ReadTwice d l m = Pairwise (Corresponding d) l m

-- a receiver frequency is a u32
abbrev pub U32 : List RawReading → Type 0
U32 [] = Unit
U32 (r ∷ l) = (r.lo < 2 ^ 32) × U32 l

-- 'the direct frame 1 path': frame1 gives frame 1's own frequency. It always does without downlink, and with downlink where it finds no middle of frames 2 and 3
abbrev pub DirectPath : ℕ → List Reading → List FrameSpan → Bool → Type 0
DirectPath rate readings spans downlink = frame1 rate readings spans downlink ≡ direct (of_rank rate readings spans 0)

-- 'the direct frame 1 path gives an answer': some Hz, so there are five readings or more and their median lies within 10 kHz of the receiver frequency
pub record Answers (rate : ℕ) (raw : List RawReading) (spans : List FrameSpan) (downlink : Bool) (a : ℕ) : Type 0 where
  pub path : DirectPath rate (map reading_of raw) spans downlink
  pub answer : frame1 rate (map reading_of raw) spans downlink ≡ Some a

-- ---- what follows

-- 'the two answers differ by at most d×1562500/11904 + 2 Hz', times 11,904; `more` stands for the 2 Hz, in 11,904ths of a hertz
abbrev pub Within : ℕ → ℕ → ℕ → ℕ → Type 0
Within more d a b = 11904 * distance (pos a) (pos b) ≤ 1562500 * d + more

-- '+ 2 Hz'
abbrev pub asked : ℕ
asked = 2 * 11904

-- 0.992 Hz, which holds too, and no less does (specs/Examples.antt)
abbrev pub least : ℕ
least = 11808

-- for every d, so 'for every d up to 4,095'; the two may differ in rate, spans and downlink flag, as long as the readings that count correspond
abbrev pub Bound : ℕ → Type 0
Bound more = (d rate rate' : ℕ) (raw raw' : List RawReading) (spans spans' : List FrameSpan) (downlink downlink' : Bool) (a b : ℕ)
    → U32 raw → ReadTwice d (frame1_readings rate spans raw) (frame1_readings rate' spans' raw')
    → Answers rate raw spans downlink a → Answers rate' raw' spans' downlink' b
    → Within more d a b

-- the same where all readings of two streams correspond, each at the same sample as the other
abbrev pub StreamBound : ℕ → Type 0
StreamBound more = (d rate : ℕ) (raw raw' : List RawReading) (spans : List FrameSpan) (downlink downlink' : Bool) (a b : ℕ)
    → U32 raw → map (λ (r : RawReading). r.at) raw ≡ map (λ (r : RawReading). r.at) raw' → ReadTwice d raw raw'
    → Answers rate raw spans downlink a → Answers rate raw' spans downlink' b
    → Within more d a b

-- the request's claim, and the sharper one
pub record Claims : Type 0 where
  pub request : Bound asked
  pub sharpest : Bound least
  pub streams : StreamBound least
