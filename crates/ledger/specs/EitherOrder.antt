-- FRAMES OF TWO ARMS IN EITHER ORDER: two frames of different messages that join one after the other inside a call may join the other way round. Assumes nothing.
use Rattle.std.specs.Prelude.{◌≡◌, false, cond, ℕ, Float}
use mathlib.Core.List.{List, [], ◌∷◌, ◌++◌, map, Perm}
use Rattle.ledger.specs.Frames.{same, Frame, key_of, right_crc}
use Rattle.ledger.specs.Ledger.{Kind, Demod, Ledger, join, Call, scans, closed, messages, event_of}
use Rattle.ledger.specs.Records.{record_of}

-- the frames that join: "with right CRCs"
unfoldable pub joining : List Frame → List Frame
joining [] = []
joining (f ∷ l) = cond (right_crc f) (f ∷ joining l) (joining l)

-- the open messages after frames have joined "one after the other"
unfoldable pub joins : (K : Kind) → List Frame → List K.Open → List K.Open
joins K [] w = w
joins K (f ∷ fs) w = joins K fs (join K f w)

-- a ledger with other open messages
abbrev pub with_open : {K : Kind} → Ledger K → List K.Open → Ledger K
with_open l w = record { held = l.held; base = l.base; unscanned = l.unscanned; starts = l.starts; waiting = w; heard = l.heard }

-- the ledger l after the scans of a call c, had the frames fs joined in it, in this order
abbrev pub scans_in : {K : Kind} → ℕ → Demod → Ledger K → Call → List Frame → Ledger K
scans_in {K} rate d l c fs = with_open (scans rate d l c) (joins K fs l.waiting)

-- "the same messages, waiting and written, alike in every field. The order in which they are listed may differ": two ledgers that a call's scans left
pub record SameMessages {K : Kind} (rate : ℕ) (c : Call) (s t : Ledger K) : Type 0 where
  pub waiting : Perm (closed rate c s).waiting (closed rate c t).waiting
  pub written : Perm (messages rate c s) (messages rate c t)
  -- as bytes, however a call marks its messages
  pub records : (mark : Float → ℕ) → Perm (map (record_of mark) (map (event_of K) (messages rate c s))) (map (record_of mark) (map (event_of K) (messages rate c t)))

-- THE CLAIM, for what the ledger keeps of an open message and for what a receiver's state does, and from any ledger
pub record EitherOrder (K : Kind) (rate : ℕ) (d : Demod) : Type 0 where
  -- whatever is open before a call, it hears the same and leaves the same, and open after its scans is that and the frames that join, as they were heard
  pub in_turn : (l : Ledger K) (c : Call) (w : List K.Open) → scans rate d (with_open l w) c ≡ with_open (scans rate d l c) (joins K (joining (scans rate d l c).heard) w)
  -- "Let two frames with right CRCs, of different device or different counter, join one after the other inside a single call. Taken in the other order, the call
  -- ends with the same messages"
  pub either_order : (l : Ledger K) (c : Call) (before behind : List Frame) (a b : Frame) → joining (scans rate d l c).heard ≡ before ++ a ∷ b ∷ behind
      → same (key_of a) (key_of b) ≡ false → SameMessages rate c (scans rate d l c) (scans_in rate d l c (before ++ b ∷ a ∷ behind))
