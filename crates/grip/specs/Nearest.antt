-- The message that goes with a grip (02, request 11; causes 3, 12 and 14): what `nearest_message` answers, told by what holds of the answer. Assumes nothing.
use Rattle.std.specs.Prelude.{ℕ, ◌<◌, ◌≡◌, Bool, true, false, cond, ◌&&◌, ◌||◌, Option, Some, None, Result, List, [], ltb, length, get_or, Float}
use Rattle.std.specs.Float.{binary64}
use Rattle.std.specs.Float.Ieee.{sub, lt, eq, le}
use Rattle.floats.specs.Trig.{magnitude}
use Rattle.limits.specs.Limits.{long, bad_records, bad_time, most_record_bytes}
use Rattle.limits.specs.Answer.{said_by, answer}
use Rattle.record.specs.Readers.{time_of}
use Rattle.event_list.specs.Events.{events_of, is_message, list_ok}
use Rattle.limits.specs.declared.Refusal.{Refusal}
use Rattle.grip.specs.Times.{is_finite, distance_ok}

-- ---- which message

-- 'distance is the binary64 difference, rounded once': its magnitude
abbrev pub distance : Float → List ℕ → Float
distance grip r = magnitude (sub binary64 (time_of r) grip)

-- a message 'not over a given number of seconds away'; 'a message whose time is not finite never qualifies', nor does one whose distance overflows, as that is over every number
abbrev pub qualifies : Float → Float → List ℕ → Bool
qualifies grip within r = is_message r && (is_finite (time_of r) && le (distance grip r) within)

-- message r, which is record number i, goes before s, which is number j: its 'time is nearest', 'at equal distance the earlier one, at equal time the first record'
abbrev pub better : Float → List ℕ → ℕ → List ℕ → ℕ → Bool
better grip r i s j =
    lt (distance grip r) (distance grip s)
    || (eq (distance grip r) (distance grip s) && (lt (time_of r) (time_of s) || (eq (time_of r) (time_of s) && ltb i j)))

-- record number i, frames counted, is 'the message whose time is nearest': it qualifies, and none that qualifies goes before it
pub record IsNearest (grip within : Float) (es : List (List ℕ)) (i : ℕ) : Type 0 where
  pub there : i < length es
  pub good : qualifies grip within (get_or es i []) ≡ true
  pub best : (j : ℕ) → j < length es → qualifies grip within (get_or es j []) ≡ true → better grip (get_or es j []) j (get_or es i []) i ≡ false

-- 'truly no record does'
abbrev pub NoneQualifies : Float → Float → List (List ℕ) → Type 0
NoneQualifies grip within es = (j : ℕ) → j < length es → qualifies grip within (get_or es j []) ≡ false

-- ---- the call

-- a record number, or 'none'
pub data Found : Type 0 where
  at : ℕ → Found
  none : Found

-- an Ok in 02's words
abbrev pub found_or_none : Option ℕ → Found
found_or_none (Some n) = at n
found_or_none None = none

-- 'if nothing qualifies, the answer is none, and then truly no record does'
abbrev pub Tells : Float → Float → List (List ℕ) → Found → Type 0
Tells grip within es (at i) = IsNearest grip within es i
Tells grip within es none = NoneQualifies grip within es

-- 12 and 14, or 0: `ok` says that 12 does not apply
unfoldable pub grip_cause : Bool → Float → Float → ℕ
unfolding is_finite
grip_cause ok grip within = cond ok (cond (is_finite grip && distance_ok within) 0 bad_time) bad_records

-- the first cause that applies, 0 where none does
unfoldable pub nearest_cause : List ℕ → Float → Float → ℕ
unfolding grip_cause
nearest_cause l grip within = cond (ltb most_record_bytes (length l)) long (grip_cause (list_ok l) grip within)

-- a call on a list of bytes: its number is that of its cause; where it is accepted, its value is the right one, of which there is one alone (`same_answer` of the claims)
pub record Call (l : List ℕ) (grip within : Float) (r : Result (Option ℕ) Refusal) : Type 0 where
  pub value : Found
  pub answered : said_by found_or_none r ≡ answer (nearest_cause l grip within) value
  pub told : nearest_cause l grip within ≡ 0 → Tells grip within (events_of l) value
