-- A list of event records (02, requests 09, 11 and 13): its whole records, the messages among them, and which lists are refused with 12. Assumes nothing.
use Rattle.std.specs.Prelude.{ℕ, zero, suc, ◌/◌, ◌%◌, ◌≡◌, Bool, true, ◌&&◌, ◌||◌, length, take, drop, leb, eqb}
use mathlib.Core.List.{List, [], ◌∷◌, Permᴰ}
use Rattle.limits.specs.Limits.{record_size}
use Rattle.limits.specs.Samples.{is_dbm}
use Rattle.record.specs.Record.{frame_kind, message_kind}
use Rattle.event_list.specs.Sums.{those}
use Rattle.record.specs.Readers.{kind_of, rank_of, rssi_of}

-- the first n records of a list of bytes
unfoldable pub records_of : ℕ → List ℕ → List (List ℕ)
records_of zero l = []
records_of (suc n) l = take record_size l ∷ records_of n (drop record_size l)

-- how many whole records there are
abbrev pub wholes : List ℕ → ℕ
wholes l = length l / record_size

-- the most that a call reads: as many as 120,000,000 bytes hold
abbrev pub most_records : ℕ
most_records = 1000000

-- the whole records
abbrev pub events_of : List ℕ → List (List ℕ)
events_of l = records_of (wholes l) l

abbrev pub is_frame : List ℕ → Bool
is_frame r = eqb (kind_of r) frame_kind

abbrev pub is_message : List ℕ → Bool
is_message r = eqb (kind_of r) message_kind

-- the records that are messages, in their order: 'frame records are skipped'
abbrev pub messages_of : List (List ℕ) → List (List ℕ)
messages_of rs = those is_message rs

-- byte 1 of a message, the sum of 1, 2, 4 for the ranks that were heard, is not over this
abbrev pub most_ranks : ℕ
most_ranks = 7

-- not 'a message whose RSSI is not in −200 to 100 or whose byte 1 is not 1 to 7'; a NaN is not in it
abbrev pub message_ok : List ℕ → Bool
message_ok r = is_dbm (rssi_of r) && (leb 1 (rank_of r) && leb (rank_of r) most_ranks)

-- no 'record of unknown kind': a frame, whatever else stands in it, or a message as it must be
abbrev pub record_ok : List ℕ → Bool
record_ok r = is_frame r || (is_message r && message_ok r)

unfoldable pub all_ok : List (List ℕ) → Bool
all_ok [] = true
all_ok (r ∷ rs) = record_ok r && all_ok rs

-- refusal 12 does not apply: no 'length that isn't a multiple of 120', and every record as it must be
abbrev pub list_ok : List ℕ → Bool
list_ok l = eqb (length l % record_size) 0 && all_ok (events_of l)

-- two lists of bytes with the same records, in whatever order
pub record Reordered (l k : List ℕ) : Type 0 where
  pub size : length l ≡ length k
  pub records : Permᴰ (events_of l) (events_of k)
