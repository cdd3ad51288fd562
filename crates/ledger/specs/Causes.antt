-- Which calls are refused, and with which number: 01's table of causes, in its order, and its rules for a state in order. Assumes nothing.
use Rattle.std.specs.Prelude.{List, [], ◌∷◌, Bool, true, false, not, ◌&&◌, ◌||◌, cond, ℕ, zero, suc, ◌+◌, ◌*◌, length, leb, ltb, eqb, Option, None, Some, Float}
use Rattle.std.specs.Float.Ieee.{is_nan}
use Rattle.limits.specs.Limits.{bad_rate, short, long, bad_sample, bad_state, stream, bad_number, events_size, scratch64, longest_stream}
use Rattle.limits.specs.Samples.{rate_ok, all_dbm}
use Rattle.shifts.specs.Shifts.{Schedule, schedule_cause}
use Rattle.frame.specs.Sizes.{most_payload, most_auth}
use Rattle.ledger.specs.Types.{FrameSpan, Pending}
use Rattle.ledger.specs.Frames.{Key, same}
use Rattle.ledger.specs.Merge.{no_span, has}
use Rattle.ledger.specs.Ledger.{Kind, Demod, capacity, spaced, Ledger, Call, push, flush, scans, closed, Event, events}

-- ---- the numbers of the order

-- "at most 96 remembered starts"
abbrev pub most_starts : ℕ
most_starts = 96

-- "not before base − 7×rate"
abbrev pub oldest_s : ℕ
oldest_s = 7

-- 02, request 08: "count over 40 waiting as a state not in order"
abbrev pub most_waiting : ℕ
most_waiting = 40

-- ---- "In order"

-- remembered starts "below base + held"
unfoldable pub below : ℕ → List ℕ → Bool
below hi [] = true
below hi (s ∷ l) = ltb s hi && below hi l

-- "not before base − 7×rate"
unfoldable pub since : ℕ → ℕ → List ℕ → Bool
since base back [] = true
since base back (s ∷ l) = leb base (s + back) && since base back l

-- spans "of different ranks 0 to 2"
unfoldable pub spans_fit : List FrameSpan → Bool
spans_fit [] = true
spans_fit (s ∷ l) = (eqb s.rank no_span || (leb s.rank 2 && not (has s.rank l))) && spans_fit l

-- 1 to 3 spans are a list in receiver.rs: they stand in front, so none comes after a place that holds none
unfoldable pub in_front : List FrameSpan → Bool
in_front [] = true
in_front (s ∷ []) = true
in_front (s ∷ t ∷ l) = (eqb t.rank no_span || not (eqb s.rank no_span)) && in_front (t ∷ l)

-- "each with 1 to 3 spans of different ranks 0 to 2, payload at most 12 and auth at most 5 bytes"
unfoldable pub entry_fits : Pending → Bool
entry_fits e =
    (has 0 e.message.spans || (has 1 e.message.spans || has 2 e.message.spans))
    && (spans_fit e.message.spans
    && (in_front e.message.spans && (leb e.message.payload_len most_payload && leb e.message.auth_len most_auth)))

module _ (K : Kind) where
  -- a message with the key k waits
  unfoldable pub waits : Key → List K.Open → Bool
  waits k [] = false
  waits k (m ∷ l) = same (K.key m) k || waits k l

  -- "no two alike in device and counter"
  unfoldable pub unlike : List K.Open → Bool
  unlike [] = true
  unlike (m ∷ l) = not (waits (K.key m) l) && unlike l

  unfoldable pub all_fit : List K.Open → Bool
  all_fit [] = true
  all_fit (m ∷ l) = entry_fits (K.entry m) && all_fit l

-- "at most 96 remembered starts, below base + held, not before base − 7×rate, pairwise at least 0.3 s apart"
abbrev pub starts_ordered : ℕ → ℕ → ℕ → List ℕ → Bool
starts_ordered rate base held l =
    leb (length l) most_starts && (below (base + held) l && (since base (oldest_s * rate) l && spaced rate [] l))

-- how many samples and messages a state says that it has, and whether its starts are in order: a state says that over distances (02, request 10), a ledger over
-- absolute samples, and it has as many samples and messages as its lists are long
pub record Counts : Type 0 where
  pub held : ℕ
  pub starts : Bool
  pub waiting : ℕ

abbrev pub counts_of : {K : Kind} → ℕ → Ledger K → Counts
counts_of rate l =
    record { held = length l.held; starts = starts_ordered rate l.base (length l.held) l.starts; waiting = length l.waiting }

-- "held at most 12×rate, those samples valid, base + held at most 2^40, twice the unscanned count under the rate, [the starts]; at most 128 [02: 40] waiting, no two
-- alike in device and counter, each with .."
unfoldable pub orderly : {K : Kind} → ℕ → Counts → Ledger K → Bool
orderly {K} rate n l =
    leb n.held (capacity rate)
    && (all_dbm l.held
    && (leb (l.base + n.held) longest_stream
    && (ltb (2 * l.unscanned) rate
    && (n.starts
    && (leb n.waiting most_waiting
    && (unlike K l.waiting && all_fit K l.waiting))))))

-- ---- "any NaN": in the numbers that a state's messages use

unfoldable pub span_nan : List FrameSpan → Bool
span_nan [] = false
span_nan (s ∷ l) = (not (eqb s.rank no_span) && (is_nan s.time || is_nan s.end)) || span_nan l

unfoldable pub end_nan : Option Float → Bool
end_nan (Some t) = is_nan t
end_nan None = false

unfoldable pub entry_nan : Pending → Bool
entry_nan e =
    is_nan e.last
    || (is_nan e.message.time || (is_nan e.message.rssi || (end_nan e.message.first_frame_end || span_nan e.message.spans)))

unfoldable pub any_nan : (K : Kind) → List K.Open → Bool
any_nan K [] = false
any_nan K (m ∷ l) = entry_nan (K.entry m) || any_nan K l

-- ---- causes

-- lengths of what is lent: samples, events in bytes, scratch in f32 and in f64
pub record Lent : Type 0 where
  pub samples : ℕ
  pub events : ℕ
  pub scratch32 : ℕ
  pub scratch64 : ℕ

-- "lent slice short: samples 12×rate, events 30,720 bytes, scratch 12×rate f32 and 3,000 f64"; 02, request 05: "refusal 2 now wants 6,000 f64 of scratch"
abbrev pub too_short : ℕ → Lent → Bool
too_short rate b =
    ltb b.samples (capacity rate) || (ltb b.events events_size || (ltb b.scratch32 (capacity rate) || ltb b.scratch64 scratch64))

-- the causes of a call that look at its samples and at the state
unfoldable pub call_cause : {K : Kind} → ℕ → Counts → Ledger K → Call → ℕ
call_cause {K} rate n l (push xs) =
    cond (ltb (capacity rate) (length xs)) long
    (cond (not (all_dbm xs)) bad_sample
    (cond (not (orderly rate n l)) bad_state
    (cond (ltb longest_stream (l.base + n.held + length xs)) stream
    (cond (any_nan K l.waiting) bad_number 0))))
call_cause {K} rate n l flush = cond (not (orderly rate n l)) bad_state (cond (any_nan K l.waiting) bad_number 0)

-- "Checks run by number": the first cause that applies, 0 where none does
unfoldable pub cause : {K : Kind} → ℕ → Lent → Counts → Ledger K → Call → ℕ
cause rate b n l c = cond (not (rate_ok rate)) bad_rate (cond (too_short rate b) short (call_cause rate n l c))

-- of two causes, the first that applies
unfoldable pub first_of : ℕ → ℕ → ℕ
first_of zero m = m
first_of (suc n) m = suc n

-- 02, request 03: "It refuses, after 10, with 11"
abbrev pub cause_with : {K : Kind} → ℕ → Lent → Counts → Ledger K → Call → Schedule → ℕ
cause_with rate b n l c p = first_of (cause rate b n l c) (schedule_cause p)

-- ---- a list of calls, refused ones included

-- a call as it comes, with the lengths of what is lent to it and what it is given of shifts
pub record Attempt : Type 0 where
  pub call : Call
  pub lent : Lent
  pub schedule : Schedule

-- the ledger's own: "a cause that looks at state or held samples looks at the ledger's here"
abbrev pub number : {K : Kind} → ℕ → Ledger K → Attempt → ℕ
number rate l a = cause_with rate a.lent (counts_of rate l) l a.call a.schedule

-- "A refused call changes nothing and has no records"
unfoldable pub after_call : {K : Kind} → ℕ → Demod → Ledger K → Call → ℕ → Ledger K
after_call rate d l c zero = closed rate c (scans rate d l c)
after_call rate d l c (suc n) = l

unfoldable pub call_events : {K : Kind} → ℕ → Demod → Ledger K → Call → ℕ → List Event
call_events rate d l c zero = events rate c (scans rate d l c)
call_events rate d l c (suc n) = []

-- the ledger after a list of calls
unfoldable pub after : {K : Kind} → ℕ → Demod → Ledger K → List Attempt → Ledger K
after rate d l [] = l
after rate d l (a ∷ cs) = after rate d (after_call rate d l a.call (number rate l a)) cs
