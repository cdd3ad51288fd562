-- What a line of samples keeps: the indices stay within the stream's count. Assumes nothing.
use Rattle.std.proofs.Common.{ℕ, ◌+◌, Bool, true, false, List, [], ◌∷◌, arith, Option, Some, cond}
use lib.Ieee.{Float, binary64, lt, add}
use Rattle.frequency_signal.specs.declared.Signal.{Signal}
use Rattle.frequency_signal.specs.Seconds.{gap}
use Rattle.frequency_signal.specs.Order.{Index}
use Rattle.frequency_signal.specs.Heard.{above_db, known, loud, soft, hear, heard}
use Rattle.frequency_signal.proofs.Hearing.{later, hear-index}

picked : (n : ℕ) (t : Bool) (from : Option ℕ) → Index n from → Index (n + 1) (cond t (Some n) from)
picked n true from h = omega arith
picked n false from h = later n from h

hear_from : (rate : ℕ) (s : Signal) (v : Float) → Index s.n s.frame_from → Index (hear rate s v).n (hear rate s v).frame_from
unfolding hear loud soft
hear_from rate s v h = go (lt (add binary64 (known s.floor v) above_db) v)
  where
    go : (t : Bool) → Index (cond t (loud rate s (known s.floor v)) (soft rate s (known s.floor v) v)).n (cond t (loud rate s (known s.floor v)) (soft rate s (known s.floor v) v)).frame_from
    go true = picked s.n (gap rate s.n s.last_signal) s.frame_from h
    go false = later s.n s.frame_from h

pub heard_last : (rate : ℕ) (s : Signal) (l : List Float) → Index s.n s.last_signal → Index (heard rate s l).n (heard rate s l).last_signal
unfolding heard
heard_last rate s [] h = h
heard_last rate s (v ∷ l) h = heard_last rate (hear rate s v) l (hear-index rate s v h)

pub heard_from : (rate : ℕ) (s : Signal) (l : List Float) → Index s.n s.frame_from → Index (heard rate s l).n (heard rate s l).frame_from
unfolding heard
heard_from rate s [] h = h
heard_from rate s (v ∷ l) h = heard_from rate (hear rate s v) l (hear_from rate s v h)
