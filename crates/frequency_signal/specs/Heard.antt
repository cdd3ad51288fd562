-- `samples` of frequency.rs, the part that hears: one sample, and a line of them. Assumes nothing.
use Rattle.std.specs.Prelude.{ℕ, ◌+◌, false, cond, List, [], ◌∷◌, Float, Option, None, Some}
use Rattle.std.specs.Float.{binary64}
use Rattle.std.specs.Float.Ieee.{add, sub, div, lt}
use Rattle.floats.specs.Number.{num}
use Rattle.frequency_signal.specs.declared.Signal.{Signal}
use Rattle.frequency_signal.specs.Seconds.{gap, quiet}

-- ABOVE_DB: a sample this far above the noise floor counts as signal
abbrev pub above_db : Float
above_db = num 15

-- *floor.get_or_insert(v)
abbrev pub known : Option Float → Float → Float
known None v = v
known (Some f) v = f

-- a sample over the floor f by more than ABOVE_DB: after a quiet time a new message begins, after a gap a frame
unfoldable pub loud : ℕ → Signal → Float → Signal
loud rate s f = record {
  n = s.n + 1;
  floor = Some f;
  frame_from = cond (gap rate s.n s.last_signal) (Some s.n) s.frame_from;
  last_signal = Some s.n;
  retuned = cond (quiet rate s.n s.last_signal) false s.retuned;
}

-- any other moves the floor: about one second to follow the noise floor
unfoldable pub soft : ℕ → Signal → Float → Float → Signal
soft rate s f v = record {
  n = s.n + 1;
  floor = Some (add binary64 f (div binary64 (sub binary64 v f) (num rate)));
  frame_from = s.frame_from;
  last_signal = s.last_signal;
  retuned = s.retuned;
}

-- v > floor + ABOVE_DB
unfoldable pub hear : ℕ → Signal → Float → Signal
hear rate s v = let f = known s.floor v in cond (lt (add binary64 f above_db) v) (loud rate s f) (soft rate s f v)

-- for &v in dbm
unfoldable pub heard : ℕ → Signal → List Float → Signal
unfolding hear
heard rate s [] = s
heard rate s (v ∷ vs) = heard rate (hear rate s v) vs
