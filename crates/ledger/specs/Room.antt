-- How many starts, open messages and records a call can have, and the call by a program that takes a burst only where its arrays have room.
-- For the port's proofs: no claim of 01 is stated by this. Assumes nothing.
use Rattle.std.specs.Prelude.{◌≡◌, List, [], ◌∷◌, Bool, true, ◌&&◌, cond, ℕ, zero, suc, ◌+◌, ◌*◌, ◌/◌, ◌≤◌, ◌<◌, length, drop, leb, ltb, Float, Some}
use Rattle.limits.specs.Limits.{longest_stream}
use Rattle.limits.specs.Samples.{all_dbm}
use Rattle.frame.specs.Sizes.{most_payload, most_auth}
use Rattle.ledger.specs.Types.{DecodedFrame, Burst}
use Rattle.ledger.specs.Ledger.{Kind, Demod, capacity, tail, spaced, Ledger, take_one, forget, halve, amount, add, scanned, fill, Call, push, flush, start_call, scans, messages}
use Rattle.ledger.specs.Causes.{most_starts, most_waiting, oldest_s, unlike, all_fit}

-- ---- what the bounds need of demodulation

-- 40 ms: quiet samples that a burst bridges
abbrev pub gap : ℕ → ℕ
gap rate = (2 * rate + 25) / 50

-- bursts of a list of n samples, from the place p on: each lasts 0.3 s from its first to its last sample, and more than the gap lies between two
abbrev pub Row : ℕ → ℕ → ℕ → List Burst → Type 0
Row rate n p [] = Unit
Row rate n p (b ∷ bs) =
    (p ≤ b.start) × (10 * b.start + 3 * rate + 10 ≤ 10 * b.end) × (b.end ≤ n) × Row rate n (b.end + gap rate + 1) bs

pub record Fair (rate : ℕ) (d : Demod) : Type 0 where
  pub row : (held : List Float) → length held ≤ capacity rate → Row rate (length held) 0 (d.bursts held)
  pub payload : (held : List Float) (t : Float) (b : Burst) (x : DecodedFrame) → d.decode held t b ≡ Some x → x.frame.payload_len ≤ most_payload
  pub auth : (held : List Float) (t : Float) (b : Burst) (x : DecodedFrame) → d.decode held t b ≡ Some x → x.frame.auth_len ≤ most_auth

-- ---- the order of a state, as facts

abbrev pub Below : ℕ → List ℕ → Type 0
Below hi [] = Unit
Below hi (s ∷ l) = (s < hi) × Below hi l

abbrev pub Since : ℕ → ℕ → List ℕ → Type 0
Since base back [] = Unit
Since base back (s ∷ l) = (base ≤ s + back) × Since base back l

pub record InOrder {K : Kind} (rate : ℕ) (l : Ledger K) : Type 0 where
  pub room : length l.held ≤ capacity rate
  pub samples : all_dbm l.held ≡ true
  pub stream : l.base + length l.held ≤ longest_stream
  pub unscanned : 2 * l.unscanned < rate
  pub few : length l.starts ≤ most_starts
  pub below : Below (l.base + length l.held) l.starts
  pub recent : Since l.base (oldest_s * rate) l.starts
  pub apart : spaced rate [] l.starts ≡ true
  pub waiting : length l.waiting ≤ most_waiting
  pub unlike : unlike K l.waiting ≡ true
  pub fits : all_fit K l.waiting ≡ true

-- a push that causes 3, 4 and 7 do not refuse
pub record Accepts {K : Kind} (rate : ℕ) (l : Ledger K) (xs : List Float) : Type 0 where
  pub size : length xs ≤ capacity rate
  pub samples : all_dbm xs ≡ true
  pub stream : l.base + length l.held + length xs ≤ longest_stream

abbrev pub Accepted : {K : Kind} → ℕ → Ledger K → Call → Type 0
Accepted rate l (push xs) = Accepts rate l xs
Accepted rate l flush = Unit

-- ---- the room that a call needs

-- P holds before and after each of the bursts bs that a scan looks at
abbrev pub ThroughBursts : {K : Kind} → (Ledger K → Type 0) → ℕ → Demod → ℕ → Ledger K → List Burst → Type 0
ThroughBursts P rate d wait l [] = P l
ThroughBursts P rate d wait l (b ∷ bs) = P l × ThroughBursts P rate d wait (take_one rate d wait l b) bs

abbrev pub ThroughFill : {K : Kind} → (Ledger K → Type 0) → ℕ → Demod → Ledger K → Type 0
ThroughFill P rate d l = leb rate (2 * l.unscanned) ≡ true → ThroughBursts P rate d (tail rate) (scanned l) (d.bursts l.held)

abbrev pub ThroughFills : {K : Kind} → (Ledger K → Type 0) → ℕ → Demod → ℕ → Ledger K → List Float → Type 0
ThroughFills P rate d zero l xs = Unit
ThroughFills P rate d (suc n) l [] = Unit
ThroughFills P rate d (suc n) l (x ∷ xs) =
    ThroughFill P rate d (add rate (halve rate l) (x ∷ xs))
    × ThroughFills P rate d n (fill rate d l (x ∷ xs)) (drop (amount rate (halve rate l) (x ∷ xs)) (x ∷ xs))

-- P holds before and after each burst that the call looks at
abbrev pub Through : {K : Kind} → (Ledger K → Type 0) → ℕ → Demod → Ledger K → Call → Type 0
Through P rate d l (push xs) = ThroughFills P rate d (length xs) (start_call l) xs
Through P rate d l flush = ThroughBursts P rate d 0 (start_call l) (d.bursts (start_call l).held)

-- at most so many starts, open messages and frames of this call
pub record Room {K : Kind} (s w h : ℕ) (l : Ledger K) : Type 0 where
  pub starts : length l.starts ≤ s
  pub waiting : length l.waiting ≤ w
  pub heard : length l.heard ≤ h

-- the frames that a push can hear: starts 0.3 s apart in the 24 s that were held or are pushed, less the last frame's 0.3 s and its tail
abbrev pub push_frames : ℕ
push_frames = 78

-- the frames that a flush can hear: bursts of 0.3 s with 40 ms between two, in 12 s
abbrev pub flush_frames : ℕ
flush_frames = 35

-- the bounds, for every rate from 1 on
pub record Bounded (K : Kind) (rate : ℕ) (d : Demod) : Type 0 where
  -- from any state that is in order, grown or given
  pub in_push : (l : Ledger K) (xs : List Float) → InOrder rate l → Accepts rate l xs → Through (Room 84 (most_waiting + push_frames) push_frames) rate d l (push xs)
  pub in_flush : (l : Ledger K) → InOrder rate l → Through (Room 64 (most_waiting + flush_frames) flush_frames) rate d l flush
  -- 30,720 bytes are 256 records
  pub events : (l : Ledger K) (c : Call) → InOrder rate l → Accepted rate l c
      → length (scans rate d l c).heard + length (messages rate c (scans rate d l c)) ≤ most_waiting + 2 * push_frames

-- ---- a call by a program that tests for room

-- the places for open messages: a push of a given state needs 40 and 78, and one is free before each burst
abbrev pub open_places : ℕ
open_places = 119

-- the records that an event buffer of 30,720 bytes holds
abbrev pub event_places : ℕ
event_places = 256

module _ {K : Kind} where
  -- one more start, open message and record fit
  unfoldable pub room : Ledger K → Bool
  room l = ltb (length l.starts) most_starts && (ltb (length l.waiting) open_places && ltb (length l.heard) event_places)

  unfoldable pub take_one_if : ℕ → Demod → ℕ → Ledger K → Burst → Ledger K
  take_one_if rate d wait l b = cond (room l) (take_one rate d wait l b) l

  unfoldable pub take_each_if : ℕ → Demod → ℕ → Ledger K → List Burst → Ledger K
  take_each_if rate d wait l [] = l
  take_each_if rate d wait l (b ∷ bs) = take_each_if rate d wait (take_one_if rate d wait l b) bs

  unfoldable pub scan_if : ℕ → Demod → ℕ → Ledger K → Ledger K
  scan_if rate d wait l = forget rate (take_each_if rate d wait l (d.bursts l.held))

  unfoldable pub due_if : ℕ → Demod → Ledger K → Ledger K
  due_if rate d l = cond (leb rate (2 * l.unscanned)) (scan_if rate d (tail rate) (scanned l)) l

  unfoldable pub fill_if : ℕ → Demod → Ledger K → List Float → Ledger K
  fill_if rate d l xs = due_if rate d (add rate (halve rate l) xs)

  unfoldable pub fills_if : ℕ → Demod → ℕ → Ledger K → List Float → Ledger K
  fills_if rate d zero l xs = l
  fills_if rate d (suc n) l [] = l
  fills_if rate d (suc n) l (x ∷ xs) =
      fills_if rate d n (fill_if rate d l (x ∷ xs)) (drop (amount rate (halve rate l) (x ∷ xs)) (x ∷ xs))

  unfoldable pub scans_if : ℕ → Demod → Ledger K → Call → Ledger K
  scans_if rate d l (push xs) = fills_if rate d (length xs) (start_call l) xs
  scans_if rate d l flush = scan_if rate d 0 (start_call l)
