-- Requests and steps of `tuned` and `next_tuning` (frequency.rs). Assumes nothing.
use Rattle.std.specs.Prelude.{ℕ, ◌≤◌, Bool, true, false, cond, not, ◌&&◌, List, leb, eqb, length, Float, Option, None, Some}
use Rattle.limits.specs.Limits.{longest_stream}
use Rattle.cfo.specs.Cfo.{round_hz}
use Rattle.frequency_signal.specs.declared.Signal.{Signal}
use Rattle.frequency_signal.specs.Order.{Index}
use Rattle.frequency_signal.specs.Seconds.{Rate, gap, young}
use Rattle.frequency_measure.specs.Measured.{fewest, median}
use Rattle.frequency_tuning.specs.declared.Step.{Step}
use Rattle.frequency_tuning.specs.declared.Step.TheVariants.{Stay, Base, Settled}

-- requested == Some(freq) forgets the request
abbrev pub answered : Option ℕ → ℕ → Option ℕ
answered None f = None
answered (Some g) f = cond (eqb g f) None (Some g)

-- !(retuned || since_signal() > GAP_S * rate || ((n - frame_from) as f64) < settle)
abbrev pub waits : ℕ → Signal → Bool
waits rate s = not s.retuned && (not (gap rate s.n s.last_signal) && not (young rate s.n s.frame_from))

abbrev pub is_asked : Option ℕ → Bool
is_asked None = false
is_asked (Some f) = true

-- the settled frame 1 reading, of five readings or more
unfoldable pub settled_by : List Float → Step
settled_by hzs = cond (leb fewest (length hzs)) (Settled (round_hz (median hzs))) Stay

-- (f != self.freq()).then_some(f)
abbrev pub unless : ℕ → ℕ → Option ℕ
unless f g = cond (eqb f g) None (Some f)

-- self.request(..): what to tune to, of the base frequency and the receiver's
abbrev pub target : ℕ → ℕ → Step → Option ℕ
target base g Stay = None
target base g Base = unless base g
target base g (Settled f) = unless f g

-- a request is remembered
abbrev pub asked : Option ℕ → Option ℕ → Option ℕ
asked None old = old
asked (Some f) old = Some f

-- retuned is set as soon as five readings are there, also where the receiver is at their frequency already
abbrev pub retunes : Step → Bool → Bool
retunes Stay old = old
retunes Base old = old
retunes (Settled f) old = true

abbrev pub with_retuned : Signal → Bool → Signal
with_retuned s b = record { n = s.n; floor = s.floor; frame_from = s.frame_from; last_signal = s.last_signal; retuned = b }

-- a signal in order
pub record Steady (rate : ℕ) (s : Signal) : Type 0 where
  pub rates : Rate rate
  pub stream : s.n ≤ longest_stream
  pub last : Index s.n s.last_signal
  pub from : Index s.n s.frame_from
