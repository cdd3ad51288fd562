-- Scaffolding. A call under way: what the starts, the open messages and the event buffer stand for, and what a step of a scan asks and does. Assumes nothing.
use Rattle.std.specs.Prelude.{◌≡◌, List, map, Bool, true, not, ◌&&◌, ℕ, ◌+◌, ◌≤◌, length, leb, ltb, ℤ, pos, Float}
use Rattle.limits.specs.Limits.{lowest_rate, highest_rate, longest_stream, events_size, scratch64}
use Rattle.limits.specs.Samples.{all_dbm}
use Rattle.bursts.specs.declared.Burst.{Burst}
use Rattle.ledger.specs.Ledger.{Ledger, by_entry, capacity, seconds, hear, remember}
use Rattle.ledger.specs.Causes.{most_starts}
use Rattle.ledger.specs.Room.{open_places, event_places}
use Rattle.ledger.specs.Demodulation.{demod_of}
use Rattle.ledger.specs.Records.{Sized, frame_bytes, with_records}
use Rattle.receiver_starts.specs.Starts.{distances, distances_of, near_one}
use Rattle.receiver_starts.specs.declared.Starts.{Starts}
use Rattle.receiver_waiting.specs.Waiting.{waiting_of}
use Rattle.receiver_waiting.specs.declared.Waiting.{Waiting}
use Rattle.receiver_scan.specs.declared.Scanned.{Scanned}

-- the ledger l is what starts, open messages, the count of records and the event buffer stand for, in a call that found the buffer as `old`
pub record Midway (l : Ledger by_entry) (old : List ℕ) (s : Starts) (w : Waiting) (n : ℕ) (e : List ℕ) : Type 0 where
  pub starts : distances s ≡ distances_of l.base l.starts
  pub waiting : waiting_of w ≡ l.waiting
  pub count : n ≡ length l.heard
  pub events : e ≡ with_records (map frame_bytes l.heard) old
  pub sized : Sized (map frame_bytes l.heard)

-- what is handed to a scan is as 01 accepts it, and what is lent as long as it asks
pub record Lent (rate base wait : ℕ) (held : List Float) (e : List ℕ) (x : List Float) : Type 0 where
  pub lowest : lowest_rate ≤ rate
  pub highest : rate ≤ highest_rate
  pub fits : length held ≤ capacity rate
  pub valid : all_dbm held ≡ true
  pub stream : base + length held ≤ longest_stream
  pub waits : wait ≤ rate
  pub events : events_size ≤ length e
  pub scratch : scratch64 ≤ length x

-- the events and scratch that are lent are as long as a scan asks
pub record Room (e : List ℕ) (x : List Float) : Type 0 where
  pub events : events_size ≤ length e
  pub scratch : scratch64 ≤ length x

-- the counts are within the arrays
pub record Within (s : Scanned) : Type 0 where
  pub starts : s.starts.count ≤ most_starts
  pub waiting : s.waiting.count ≤ open_places
  pub count : s.count ≤ event_places

-- the code did the ledger's step f: from s and an event buffer to t and another
pub record Does (f : Ledger by_entry → Ledger by_entry) (held : List Float) (base : ℕ) (s : Scanned) (before : List ℕ) (t : Scanned) (after : List ℕ) : Type 0 where
  pub midway : (l : Ledger by_entry) (old : List ℕ) → l.held ≡ held → l.base ≡ base → Midway l old s.starts s.waiting s.count before
      → Midway (f l) old t.starts t.waiting t.count after
  pub within : Within t

-- the ledger's `room`, of the counts
abbrev pub has_room : ℕ → ℕ → ℕ → Bool
has_room starts waiting count = ltb starts most_starts && (ltb waiting open_places && ltb count event_places)

-- the ledger's `takes`, of the distances and numbers that it looks at: a burst's buffer index is the distance of its start
abbrev pub takes_at : ℕ → ℕ → List ℤ → ℕ → Burst → Bool
takes_at rate wait starts held b = (ltb 0 b.start && leb (b.end + wait) held) && not (near_one rate starts (pos b.start))

-- the ledger's `take_one` of a burst that is taken
abbrev pub taken : ℕ → Burst → Ledger by_entry → Ledger by_entry
taken rate b l = hear (remember l (l.base + b.start)) (l.base + b.start) ((demod_of rate).decode l.held (seconds rate l.base) b)
