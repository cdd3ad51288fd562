-- The messages on air across an instant (02, request 11; causes 2, 3, 12 and 14): what `on_air` answers, a refusal's number or how many record numbers there are ('none' is 0), and leaves in the lent list. Assumes nothing.
use Rattle.std.specs.Prelude.{ℕ, suc, Bool, cond, ◌&&◌, ◌||◌, not, List, [], ◌∷◌, ltb, eqb, length, Float}
use Rattle.std.specs.Float.Ieee.{le, lt}
use Rattle.limits.specs.Limits.{short, long, bad_records, bad_time, most_record_bytes}
use Rattle.record.specs.Record.{no_rank}
use Rattle.record.specs.Readers.{span_at}
use Rattle.record.specs.declared.FrameSpan.{FrameSpan}
use Rattle.event_list.specs.Events.{wholes, events_of, is_message, list_ok}
use Rattle.grip.specs.Times.{is_finite}

-- 'some span whose rank byte isn't 255 begins at or before it and ends after it': a span; a comparison with a NaN is false
abbrev pub span_on : Float → FrameSpan → Bool
span_on x s = not (eqb s.rank no_rank) && (le s.time x && lt x s.end)

-- a message with such a span, among its three
abbrev pub is_on_air : Float → List ℕ → Bool
is_on_air x r = is_message r && (span_on x (span_at r 0) || (span_on x (span_at r 1) || span_on x (span_at r 2)))

-- 'their record numbers (from 0), rising': of records that are counted from k
unfoldable pub air_from : ℕ → Float → List (List ℕ) → List ℕ
air_from k x [] = []
air_from k x (r ∷ rs) = cond (is_on_air x r) (k ∷ air_from (suc k) x rs) (air_from (suc k) x rs)

abbrev pub air_numbers : Float → List ℕ → List ℕ
air_numbers x l = air_from 0 x (events_of l)

-- the first cause that applies, 0 where none does: 'one with fewer places than there are whole records is refusal 2'
unfoldable pub air_cause : List ℕ → Float → ℕ → ℕ
unfolding is_finite
air_cause l x places =
    cond (ltb places (wholes l)) short
    (cond (ltb most_record_bytes (length l)) long
    (cond (list_ok l) (cond (is_finite x) 0 bad_time) bad_records))
