-- frequency.rs: median, frame_frequency and frame1, on lists of readings. Assumes nothing.
use Rattle.std.specs.Prelude.{ℕ, ◌/◌, Bool, true, false, cond, ◌&&◌, List, [], ◌∷◌, map, leb, ltb, eqb, length, Float, Option, None, Some}
use Rattle.std.specs.Float.{binary64}
use Rattle.std.specs.Float.Ieee.{add, sub, mul, div, lt, le, to_unsigned}
use Rattle.floats.specs.Floor.{round_half_up}
use Rattle.floats.specs.Number as Number
use Rattle.floats.specs.Number.{num}
use Rattle.floats.specs.Trig.{magnitude}
use Rattle.order.specs.Order.{kth}
use Rattle.rates.specs.Numbers.{settle_s}
use Rattle.cfo.specs.Cfo.{round_hz}
use Rattle.frequency_lists.specs.declared.Reading.{Reading}
use Rattle.frequency_lists.specs.Lists.{last_or}
use Rattle.frequency_lists.specs.Marks.{retained}
use Rattle.frequency_measure.specs.declared.FrameFrequency.{FrameFrequency}
use Rattle.record.specs.declared.FrameSpan.{FrameSpan}

-- hz.len() >= 5
abbrev pub fewest : ℕ
fewest = 5

-- MAX_OFFSET_HZ: a frame read further than this from the receiver frequency gets no frequency
abbrev pub max_offset_hz : Float
max_offset_hz = num 10000

-- RC3_DELTA_F_MF_HZ: frames 2 and 3 are sent at frame 1 +/- this
abbrev pub delta_hz : Float
delta_hz = num 6000

-- 1.5 and 2.5 times RC3_DELTA_F_MF_HZ: a plausible spacing (12 kHz) guards against a frame from another device
abbrev pub spacing_low : Float
spacing_low = Number.near 15 10

abbrev pub spacing_high : Float
spacing_high = Number.near 25 10

-- 'Medians take index length/2', of the list sorted by total_cmp
unfoldable pub median : List Float → Float
median l = kth binary64 l (length l / 2)

-- ---- frame_frequency

-- (x + 0.5).floor() as i64; indices are not negative, so the u64 compares the same (proofs/Signed.antt)
abbrev pub sample_of : Float → ℕ
sample_of x = to_unsigned 64 (round_half_up x)

-- ((f.time + SETTLE_S) * rate + 0.5).floor() as i64
abbrev pub first_of : ℕ → Float → ℕ
first_of rate time = sample_of (mul binary64 (add binary64 time settle_s) (num rate))

-- (f.end * rate + 0.5).floor() as i64
abbrev pub past_of : ℕ → Float → ℕ
past_of rate end = sample_of (mul binary64 end (num rate))

-- r.at >= from && r.at < to
abbrev pub inside : ℕ → ℕ → ℕ → Bool
inside first past at = leb first at && ltb at past

-- a frequency and the receiver frequency it was measured against
abbrev pub measured : Float → ℕ → FrameFrequency
measured h f = record { hz = h; lo = f }

-- of the readings in a frame: against the last receiver frequency used in it, of five readings or more with that one
unfoldable pub frame_of : List Reading → Option FrameFrequency
unfolding median last_or
frame_of [] = None
frame_of (x ∷ l) =
    let lo = last_or x.lo (map (λ (y : Reading). y.lo) l) in
    let hzs = map (λ (y : Reading). y.hz) (retained (map (λ (y : Reading). eqb y.lo lo) (x ∷ l)) (x ∷ l)) in
    cond (leb fewest (length hzs)) (Some (measured (median hzs) lo)) None

-- frame_frequency
unfoldable pub frame_frequency : ℕ → List Reading → Float → Float → Option FrameFrequency
unfolding frame_of
frame_frequency rate readings time end = frame_of (retained (map (λ (y : Reading). inside (first_of rate time) (past_of rate end) y.at) readings) readings)

-- ---- frame1

-- (hz - f64::from(lo)).abs() <= MAX_OFFSET_HZ
abbrev pub near : Float → ℕ → Bool
near h lo = le (magnitude (sub binary64 h (num lo))) max_offset_hz

-- spacing > 1.5 * RC3_DELTA_F_MF_HZ && spacing < 2.5 * RC3_DELTA_F_MF_HZ, spacing = f2.hz - f3.hz
abbrev pub spaced : Float → Float → Bool
spaced h g = lt (mul binary64 spacing_low delta_hz) (sub binary64 h g) && lt (sub binary64 h g) (mul binary64 spacing_high delta_hz)

-- frame 1 itself, measured close to the receiver frequency
unfoldable pub direct : Option FrameFrequency → Option ℕ
direct None = None
direct (Some f) = cond (near f.hz f.lo) (Some (round_hz f.hz)) None

-- the midpoint of frames 2 and 3, plausibly spaced and measured with the same receiver frequency, else the other
unfoldable pub middle : Option FrameFrequency → Option FrameFrequency → Option ℕ → Option ℕ
middle None b other = other
middle (Some f) None other = other
middle (Some f) (Some g) other =
    let mid = div binary64 (add binary64 f.hz g.hz) (num 2) in
    cond (eqb f.lo g.lo && (spaced f.hz g.hz && near mid f.lo)) (Some (round_hz mid)) other

-- frames.iter().find(|x| x.rank == rank).and_then(|f| self.frame_frequency(f))
unfoldable pub of_rank : ℕ → List Reading → List FrameSpan → ℕ → Option FrameFrequency
unfolding frame_frequency
of_rank rate readings [] k = None
of_rank rate readings (f ∷ l) k = cond (eqb f.rank k) (frame_frequency rate readings f.time f.end) (of_rank rate readings l k)

-- frame1: ranks 0, 1, 2 are frames 1, 2, 3
unfoldable pub frame1 : ℕ → List Reading → List FrameSpan → Bool → Option ℕ
unfolding of_rank direct middle
frame1 rate readings spans true = middle (of_rank rate readings spans 1) (of_rank rate readings spans 2) (direct (of_rank rate readings spans 0))
frame1 rate readings spans false = direct (of_rank rate readings spans 0)
