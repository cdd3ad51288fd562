-- `decode_capture` of demod.rs: the frames of all bursts, as event records (01's table). Assumes nothing.
use Rattle.std.specs.Prelude.{ℕ, ◌*◌, Bool, true, cond, not, ◌&&◌, ◌||◌, List, [], ◌∷◌, ◌++◌, ltb, length, drop, Float, Option, None, Some}
use Rattle.limits.specs.Limits.{bad_rate, short, long, bad_sample, bad_number, buffer_s, scratch64, events_size, record_size}
use Rattle.limits.specs.Samples.{rate_ok, is_dbm, all_dbm, time_ok}
use Rattle.limits.specs.Answer.{Answer, answer}
use Rattle.record.specs.Record.{frame_record}
use Rattle.record.specs.declared.Reception.{Reception}
use Rattle.bursts.specs.Levels.{noise_floor}
use Rattle.bursts.specs.Bursts.{default_options, bursts_of}
use Rattle.bursts.specs.declared.Burst.{Burst}
use Rattle.demod.specs.Decode.{decode_burst}
use Rattle.demod.specs.declared.DecodedFrame.{DecodedFrame}

-- floor.unwrap_or_else(|| noise_floor(dbm))
abbrev pub floor_of : Option Float → List Float → Float
floor_of None dbm = noise_floor dbm
floor_of (Some x) dbm = x

-- what the record has besides the frame; its start is the burst's index
abbrev pub reception_of : DecodedFrame → ℕ → Reception
reception_of d start = record { clock_error_ppm = d.clock_error_ppm; rssi = d.rssi; time = d.time; end = d.end; start = start; depth = d.depth }

-- the record of a burst that has a frame
unfoldable pub record_if : Option DecodedFrame → ℕ → List (List ℕ)
record_if None start = []
record_if (Some d) start = frame_record d.frame (reception_of d start) ∷ []

unfoldable pub record_of : List Float → ℕ → Float → Burst → List (List ℕ)
unfolding record_if
record_of dbm rate t0 b = record_if (decode_burst dbm rate b t0) b.start

unfoldable pub records_of : List Float → ℕ → Float → List Burst → List (List ℕ)
unfolding record_of
records_of dbm rate t0 [] = []
records_of dbm rate t0 (b ∷ bs) = record_of dbm rate t0 b ++ records_of dbm rate t0 bs

unfoldable pub captured : List Float → ℕ → Float → Float → List (List ℕ)
unfolding records_of
captured dbm rate t0 floor = records_of dbm rate t0 (bursts_of dbm rate default_options floor)

-- records one after another
unfoldable pub joined : List (List ℕ) → List ℕ
joined [] = []
joined (r ∷ rs) = r ++ joined rs

-- 01, cause 9 does not apply
abbrev pub floor_ok : Option Float → Bool
floor_ok None = true
floor_ok (Some x) = is_dbm x

-- the first cause that applies, 0 where none does
unfoldable pub capture_cause : List Float → ℕ → Float → Option Float → ℕ → ℕ → ℕ → ℕ
capture_cause dbm rate t0 floor events s32 s64 =
    cond (not (rate_ok rate)) bad_rate
    (cond (ltb events events_size || (ltb s32 (buffer_s * rate) || ltb s64 scratch64)) short
    (cond (ltb (buffer_s * rate) (length dbm)) long
    (cond (not (all_dbm dbm)) bad_sample
    (cond (not (time_ok t0 && floor_ok floor)) bad_number
    0))))

-- the answer of `decode_capture`: how many records
abbrev pub capture_answer : List Float → ℕ → Float → Option Float → ℕ → ℕ → ℕ → Answer ℕ
capture_answer dbm rate t0 floor events s32 s64 =
    answer (capture_cause dbm rate t0 floor events s32 s64) (length (captured dbm rate t0 (floor_of floor dbm)))

-- records in front of the events, the rest kept
unfoldable pub in_front : List (List ℕ) → List ℕ → List ℕ
unfolding joined
in_front records old = joined records ++ drop (record_size * length records) old
