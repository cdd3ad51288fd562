-- 01's ledger (section receiver.rs), on lists, over any demodulation. No word of the port's state, arrays or functions. Assumes nothing.
-- Seconds are whole numbers of samples here: 12 × rate, (3 × rate + 5) / 10 for 0.3 × rate rounded, 10 × distance against 3 × rate for 0.3 × rate, twice the
-- unscanned count against the rate for 0.5 s. The crate rates shows that the Rust's binary64 expressions say the same for every rate.
use Rattle.std.specs.Prelude.{◌≡◌, List, [], ◌∷◌, ◌++◌, map, Bool, true, false, not, ◌&&◌, ◌||◌, cond, ℕ, zero, suc, ◌+◌, ◌-◌, ◌*◌, ◌/◌, min, ◌≤◌, length, take, drop, leb, ltb, eqb, pos, Float, Option, None, Some}
use Rattle.std.specs.Float.{binary32, binary64}
use Rattle.std.specs.Float.Ieee.{lt, sub, div, neg, of_int}
use Rattle.floats.specs.Number.{num}
use Rattle.limits.specs.Limits.{buffer_s}
use Rattle.ledger.specs.Types.{DecodedFrame, Burst, SigfoxMessage, Pending}
use Rattle.ledger.specs.Frames.{Key, same, Frame, frame_at, key_of, rank_of, right_crc, time_of}
use Rattle.ledger.specs.Merge.{quiet_s, entry_key, open_entry, merge, merge_all, expires, finished}

-- ---- open messages

-- an open message is the list of its frames, never empty, in the order in which they joined
pub record Message : Type 0 where
  pub first : Frame
  pub more : List Frame

abbrev pub frames : Message → List Frame
frames m = m.first ∷ m.more

abbrev pub message_key : Message → Key
message_key m = key_of m.first

-- "of its frames as the Rust merges them"
abbrev pub summary : Message → Pending
summary m = merge_all (open_entry m.first) m.more

-- the rank r is among the frames
unfoldable pub ranked : ℕ → List Frame → Bool
ranked r [] = false
ranked r (f ∷ l) = eqb (rank_of f) r || ranked r l

unfoldable pub latest : Frame → List Frame → Frame
latest f [] = f
latest f (g ∷ l) = latest g l

-- "three ranks or now − last over 10": last is the time of the frame that joined last
unfoldable pub complete : Float → Message → Bool
complete t m =
    (ranked 0 (frames m) && (ranked 1 (frames m) && ranked 2 (frames m)))
    || lt quiet_s (sub binary64 t (time_of (latest m.first m.more)))

-- The ledger keeps an open message as the list of its frames, a receiver's state as the entry that the Rust merges: the rules below are one text for both.
pub record Kind : Type 1 where
  pub Open : Type 0
  pub key : Open → Key
  -- a frame opens a message, or joins one
  pub opened : Frame → Open
  pub joined : Open → Frame → Open
  -- three ranks, or a time over 10 s past the frame that joined last
  pub complete : Float → Open → Bool
  -- what the Rust would hold of it
  pub entry : Open → Pending

-- 01's ledger
abbrev pub by_frames : Kind
by_frames =
    record {
      Open = Message;
      key = message_key;
      opened = λ f. record { first = f; more = [] };
      joined = λ m f. record { first = m.first; more = m.more ++ (f ∷ []) };
      complete = complete;
      entry = summary;
    }

-- the Rust's
abbrev pub by_entry : Kind
by_entry = record { Open = Pending; key = entry_key; opened = open_entry; joined = merge; complete = expires; entry = λ e. e }

-- ---- demodulation, as far as the ledger uses it: demand 2's definitions are the one that the receiver has

pub record Demod : Type 0 where
  -- the bursts of a held list, over its own noise floor
  pub bursts : List Float → List Burst
  -- the frame of a burst of a held list, or none; the time is that of the list's first sample
  pub decode : List Float → Float → Burst → Option DecodedFrame
  -- a frame's rank is 0, 1 or 2
  pub ranks : (held : List Float) (t : Float) (b : Burst) (x : DecodedFrame) → decode held t b ≡ Some x → x.frame.rank ≤ 2

-- ---- the rate's numbers

-- the buffer holds 12 s, and "a full buffer drops its older half"
abbrev pub capacity : ℕ → ℕ
capacity rate = buffer_s * rate

abbrev pub half : ℕ → ℕ
half rate = 6 * rate

-- "ended at least 0.3×rate samples (rounded) before the newest": receiver.rs TAIL_S
abbrev pub tail : ℕ → ℕ
tail rate = (3 * rate + 5) / 10

abbrev pub dist : ℕ → ℕ → ℕ
dist a b = (a - b) + (b - a)

-- under 0.3×rate samples apart, not rounded: receiver.rs SAME_BURST_S, for "the detected start of a burst moves a little between scans"
abbrev pub close : ℕ → ℕ → ℕ → Bool
close rate a b = ltb (10 * dist a b) (3 * rate)

-- a number of samples in seconds
unfoldable pub seconds : ℕ → ℕ → Float
seconds rate n = div binary64 (num n) (num rate)

-- ---- remembered starts

-- under 0.3 s from one of them
unfoldable pub near : ℕ → List ℕ → ℕ → Bool
near rate [] x = false
near rate (s ∷ l) x = close rate s x || near rate l x

-- no start of l is under 0.3 s from one of acc or from an earlier one of l
unfoldable pub spaced : ℕ → List ℕ → List ℕ → Bool
spaced rate acc [] = true
spaced rate acc (x ∷ l) = not (near rate acc x) && spaced rate (acc ++ (x ∷ [])) l

-- those from lo on
unfoldable pub starts_from : ℕ → List ℕ → List ℕ
starts_from lo [] = []
starts_from lo (s ∷ l) = cond (leb lo s) (s ∷ starts_from lo l) (starts_from lo l)

-- ---- the ledger

-- "It has the held samples, base, unscanned count, starts and open messages"; `heard` are the frames of the call that is under way, in order
pub record Ledger (K : Kind) : Type 0 where
  pub held : List Float
  pub base : ℕ
  pub unscanned : ℕ
  pub starts : List ℕ
  pub waiting : List K.Open
  pub heard : List Frame

-- "One with a right CRC joins the open message with its device and counter, or opens one"
unfoldable pub join : (K : Kind) → Frame → List K.Open → List K.Open
join K f [] = K.opened f ∷ []
join K f (m ∷ l) = cond (same (K.key m) (key_of f)) (K.joined m f ∷ l) (m ∷ join K f l)

-- ---- calls

-- a call with its arguments, but for state and lent memory
pub data Call : Type 0 where
  push : List Float → Call
  flush : Call

-- receiver.rs `push_raw`: `-f32::from(r) / 2.0`
unfoldable pub dbm_of : ℕ → Float
dbm_of b = div binary32 (neg (of_int binary32 (pos b))) (num 2)

-- "`push_raw` is a push of the dBm values that the Rust makes of its bytes"
abbrev pub push_raw : List ℕ → Call
push_raw bs = push (map dbm_of bs)

-- "a push writes and removes the open messages that have three ranks or now − last over 10; a flush, all"
unfoldable pub ready : (K : Kind) → Call → Float → K.Open → Bool
ready K (push xs) t m = K.complete t m
ready K flush t m = true

unfoldable pub chosen : {A : Type 0} → (A → Bool) → List A → List A
chosen p [] = []
chosen p (m ∷ l) = cond (p m) (m ∷ chosen p l) (chosen p l)

unfoldable pub others : {A : Type 0} → (A → Bool) → List A → List A
others p [] = []
others p (m ∷ l) = cond (p m) (others p l) (m ∷ others p l)

-- ---- its steps, whatever is kept of an open message

module _ {K : Kind} where
  -- a fresh receiver
  unfoldable pub fresh : Ledger K
  fresh = record { held = []; base = 0; unscanned = 0; starts = []; waiting = []; heard = [] }

  -- "A burst taken that decodes .. is a frame record of that call"
  unfoldable pub hear : Ledger K → ℕ → Option DecodedFrame → Ledger K
  hear l s None = l
  hear l s (Some x) =
      record {
        held = l.held;
        base = l.base;
        unscanned = l.unscanned;
        starts = l.starts;
        waiting = cond (right_crc (frame_at s x)) (join K (frame_at s x) l.waiting) l.waiting;
        heard = l.heard ++ (frame_at s x ∷ []);
      }

  -- "each start taken is remembered, decoded or not"
  unfoldable pub remember : Ledger K → ℕ → Ledger K
  remember l s =
      record { held = l.held; base = l.base; unscanned = l.unscanned; starts = l.starts ++ (s ∷ []); waiting = l.waiting; heard = l.heard }

  -- "the bursts that start after buffer index 0, ended at least 0.3×rate samples (rounded) before the newest (at a flush: no wait) and start at least
  -- 0.3×rate samples from every remembered start"
  unfoldable pub takes : ℕ → ℕ → Ledger K → Burst → Bool
  takes rate wait l b =
      (ltb 0 b.start && leb (b.end + wait) (length l.held)) && not (near rate l.starts (l.base + b.start))

  -- time and end are "base/rate plus its buffer index/rate, base as at the scan": decoding adds the index to base/rate
  unfoldable pub take_one : ℕ → Demod → ℕ → Ledger K → Burst → Ledger K
  take_one rate d wait l b =
      cond (takes rate wait l b)
      (hear (remember l (l.base + b.start)) (l.base + b.start) (d.decode l.held (seconds rate l.base) b))
      l

  unfoldable pub take_each : ℕ → Demod → ℕ → Ledger K → List Burst → Ledger K
  take_each rate d wait l [] = l
  take_each rate d wait l (b ∷ bs) = take_each rate d wait (take_one rate d wait l b) bs

  -- "starts are forgotten where the Rust forgets them": at the end of a scan, those over a second before the base
  unfoldable pub forget : ℕ → Ledger K → Ledger K
  forget rate l =
      record {
        held = l.held;
        base = l.base;
        unscanned = l.unscanned;
        starts = starts_from (l.base - rate) l.starts;
        waiting = l.waiting;
        heard = l.heard;
      }

  -- "A scan looks at the whole held list as the Rust's does"
  unfoldable pub scan : ℕ → Demod → ℕ → Ledger K → Ledger K
  scan rate d wait l = forget rate (take_each rate d wait l (d.bursts l.held))

  -- "a full buffer drops its older half"
  unfoldable pub halve : ℕ → Ledger K → Ledger K
  halve rate l =
      cond (eqb (length l.held) (capacity rate))
      (record {
        held = drop (half rate) l.held;
        base = l.base + half rate;
        unscanned = l.unscanned;
        starts = l.starts;
        waiting = l.waiting;
        heard = l.heard;
      })
      l

  -- how many of the samples xs one filling takes: what there is room for
  unfoldable pub amount : ℕ → Ledger K → List Float → ℕ
  amount rate l xs = min (length xs) (capacity rate - length l.held)

  unfoldable pub add : ℕ → Ledger K → List Float → Ledger K
  add rate l xs =
      record {
        held = l.held ++ take (amount rate l xs) xs;
        base = l.base;
        unscanned = l.unscanned + amount rate l xs;
        starts = l.starts;
        waiting = l.waiting;
        heard = l.heard;
      }

  unfoldable pub scanned : Ledger K → Ledger K
  scanned l = record { held = l.held; base = l.base; unscanned = 0; starts = l.starts; waiting = l.waiting; heard = l.heard }

  -- "A scan runs when a filling leaves 0.5 s or more unscanned, and at a flush; only the former sets the unscanned count to 0"
  unfoldable pub due : ℕ → Demod → Ledger K → Ledger K
  due rate d l = cond (leb rate (2 * l.unscanned)) (scan rate d (tail rate) (scanned l)) l

  -- "A push adds its samples by fillings, with drops and scans .. in the Rust's sequence": the body of `while off < dbm.len()`
  unfoldable pub fill : ℕ → Demod → Ledger K → List Float → Ledger K
  fill rate d l xs = due rate d (add rate (halve rate l) xs)

  -- fillings while there are samples; n is at least as many as they are
  unfoldable pub fills : ℕ → Demod → ℕ → Ledger K → List Float → Ledger K
  fills rate d zero l xs = l
  fills rate d (suc n) l [] = l
  fills rate d (suc n) l (x ∷ xs) =
      fills rate d n (fill rate d l (x ∷ xs)) (drop (amount rate (halve rate l) (x ∷ xs)) (x ∷ xs))

  unfoldable pub start_call : Ledger K → Ledger K
  start_call l = record { held = l.held; base = l.base; unscanned = l.unscanned; starts = l.starts; waiting = l.waiting; heard = [] }

  -- the ledger after a call's scans
  unfoldable pub scans : ℕ → Demod → Ledger K → Call → Ledger K
  scans rate d l (push xs) = fills rate d (length xs) (start_call l) xs
  scans rate d l flush = scan rate d 0 (start_call l)

  -- "Now is (base + held)/rate"
  unfoldable pub now : ℕ → Ledger K → Float
  now rate l = seconds rate (l.base + length l.held)

  -- the ledger after a call whose scans left l
  unfoldable pub closed : ℕ → Call → Ledger K → Ledger K
  closed rate c l =
      record {
        held = l.held;
        base = l.base;
        unscanned = l.unscanned;
        starts = l.starts;
        waiting = others (ready K c (now rate l)) l.waiting;
        heard = l.heard;
      }

  -- the messages that it writes
  unfoldable pub messages : ℕ → Call → Ledger K → List K.Open
  messages rate c l = chosen (ready K c (now rate l)) l.waiting

-- ---- records

pub data Event : Type 0 where
  of_frame : Frame → Event
  of_message : SigfoxMessage → Event

-- "A message's bytes are the table's, of its frames as the Rust merges them"
abbrev pub event_of : (K : Kind) → K.Open → Event
event_of K m = of_message (finished (K.entry m))

-- the records of a call whose scans left l: "A call's frames stand before its messages"
abbrev pub events : {K : Kind} → ℕ → Call → Ledger K → List Event
events {K} rate c l = map of_frame l.heard ++ map (event_of K) (messages rate c l)
