-- FRAMES OF TWO ARMS IN EITHER ORDER, at the port: for every state, call and memory that `push`, `push_raw` and `flush` answer. Assumes nothing.
-- Read ledger's EitherOrder first, and EitherOrderExample, where it is worked out. A call hears its frames in one order; here is what it ends with, beside what the
-- other order gives.
use Rattle.std.specs.Prelude.{◌≡◌, false, ℕ, length}
use mathlib.Core.List.{List, ◌∷◌, ◌++◌, map, Perm}
use Rattle.shifts.specs.Shifts.{Schedule, mark_by}
use Rattle.ledger.specs.Frames.{same, Frame, key_of}
use Rattle.ledger.specs.Ledger.{Ledger, by_frames, by_entry, Demod, Call, scans, closed, messages, event_of}
use Rattle.ledger.specs.Demodulation.{demod_of}
use Rattle.ledger.specs.Records.{frame_bytes, record_of, with_records}
use Rattle.ledger.specs.EitherOrder.{joining, scans_in, EitherOrder}
use Rattle.receiver_waiting.specs.Waiting.{waiting_of}
use Rattle.receiver.specs.State.{ledger_of}
use Rattle.receiver.specs.Calls.{Memory, Received, Answered}
use Rattle.receiver.specs.declared.SigfoxReceiver.{SigfoxReceiver}
use Rattle.receiver.proofs.Contracts.{Contracts}

-- the frames of a call, in the order in which it hears them
abbrev pub heard_in : SigfoxReceiver → Call → Memory → List Frame
heard_in s c m = (scans s.rate (demod_of s.rate) (ledger_of s m.samples) c).heard

-- what the call's scans would leave, had the frames fs joined in this order
abbrev pub left_in : SigfoxReceiver → Call → Memory → List Frame → Ledger by_entry
left_in s c m fs = scans_in s.rate (demod_of s.rate) (ledger_of s m.samples) c fs

-- a call writes the records of its frames, as it heard them, and then those of its messages
abbrev pub frame_records : SigfoxReceiver → Call → Memory → List (List ℕ)
frame_records s c m = map frame_bytes (heard_in s c m)

-- "the call ends with the same messages, waiting and written, alike in every field" as the one in which the frames fs joined: the entries of the state that it
-- returns, and the bytes behind those of its frames; `Perm` is a permutation
pub record EndsAlike (s : SigfoxReceiver) (c : Call) (p : Schedule) (m n : Memory) (r : Received) (fs : List Frame) : Type 0 where
  pub waiting : Perm (waiting_of r.receiver.waiting) (closed s.rate c (left_in s c m fs)).waiting
  pub written : (ms : List (List ℕ))
      × (n.events ≡ with_records (frame_records s c m ++ ms) m.events)
      × (r.count ≡ length (frame_records s c m ++ ms))
      × Perm ms (map (record_of (mark_by p)) (map (event_of by_entry) (messages s.rate c (left_in s c m fs))))

pub record TwoArms : Type 0 where
  -- the calls are those of the code
  pub code : Contracts
  -- on 01's ledger, from any ledger and by any demodulation
  pub ledger : (rate : ℕ) (d : Demod) → EitherOrder by_frames rate d
  -- of an accepted call, on any state that is given: "Let two frames with right CRCs, of different device or different counter, join one after the other inside a
  -- single call. Taken in the other order, .."
  pub port : (s : SigfoxReceiver) (c : Call) (p : Schedule) (m n : Memory) (r : Received) → Answered s c p m n r → r.refused ≡ 0
      → (before behind : List Frame) (a b : Frame) → joining (heard_in s c m) ≡ before ++ a ∷ b ∷ behind → same (key_of a) (key_of b) ≡ false
      → EndsAlike s c p m n r (before ++ b ∷ a ∷ behind)
