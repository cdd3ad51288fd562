-- Frames of two arms in either order, at the port.
use mathlib.Core.Path.{◌≡◌, refl, sym, ap, ◌∙◌}
use mathlib.Core.List.{List, ◌∷◌, ◌++◌, map}
use mathlib.Core.Bool.{false}
use Prim.Native.Nat.{ℕ}
use lib.Ieee.{Float}
use lib.ListN.{length, drop}
use lib.Seq.{take-append_seam}
use Rattle.shifts.specs.Shifts.{Schedule, mark_by}
use Rattle.ledger.specs.Frames.{same, Frame, key_of}
use Rattle.ledger.specs.Ledger.{Ledger, by_entry, Call, scans, closed, messages, of_frame, event_of}
use Rattle.ledger.specs.Causes.{call_events}
use Rattle.ledger.specs.Demodulation.{demod_of}
use Rattle.ledger.specs.Records.{frame_bytes, record_of, with_records}
use Rattle.ledger.specs.EitherOrder.{joining}
use Rattle.ledger.proofs.Basics.{map-join}
use Rattle.ledger.proofs.EitherOrder.{frames-either, entries-either}
use Rattle.receiver_waiting.specs.Waiting.{waiting_of, over}
use Rattle.receiver.specs.State.{ledger_of, state_over}
use Rattle.receiver.specs.Calls.{Memory, Received, refusal_of, records_of, state_after, Answered}
use Rattle.receiver.specs.declared.SigfoxReceiver.{SigfoxReceiver}
use Rattle.receiver.proofs.RunLaws.{frames_are}
use Rattle.receiver.proofs.Contracts.{contracts}
use Rattle.history.specs.TwoArms.{heard_in, EndsAlike, TwoArms}

-- the entries of a state that stands for a ledger
state-waiting : (s : SigfoxReceiver) (l : Ledger by_entry) → waiting_of (state_over s l).waiting ≡ l.waiting
unfolding state_over over
state-waiting s l = take-append_seam l.waiting (drop (length l.waiting) s.waiting.messages)

-- an accepted call's records are its frames' and then its messages'
split : (s : SigfoxReceiver) (c : Call) (p : Schedule) (m : Memory)
    → records_of s c p m.samples 0
    ≡ map frame_bytes (heard_in s c m) ++ map (record_of (mark_by p)) (map (event_of by_entry) (messages s.rate c (scans s.rate (demod_of s.rate) (ledger_of s m.samples) c)))
unfolding call_events
split s c p m =
    let ms = map (event_of by_entry) (messages s.rate c (scans s.rate (demod_of s.rate) (ledger_of s m.samples) c)) in
    map-join (record_of (mark_by p)) (map of_frame (heard_in s c m)) ms ∙ ap (λ (fs : List (List ℕ)). fs ++ map (record_of (mark_by p)) ms) (frames_are (mark_by p) (heard_in s c m))

accepted-state : (s : SigfoxReceiver) (c : Call) (samples : List Float) → state_after s c samples 0 ≡ state_over s (closed s.rate c (scans s.rate (demod_of s.rate) (ledger_of s samples) c))
unfolding state_after
accepted-state s c samples = refl

ends_alike : (s : SigfoxReceiver) (c : Call) (p : Schedule) (m n : Memory) (r : Received) → Answered s c p m n r → r.refused ≡ 0
    → (before behind : List Frame) (a b : Frame) → joining (heard_in s c m) ≡ before ++ a ∷ b ∷ behind → same (key_of a) (key_of b) ≡ false
    → EndsAlike s c p m n r (before ++ b ∷ a ∷ behind)
ends_alike s c p m n r ans ok before behind a b e h =
    let rate = s.rate in
    let d = demod_of rate in
    let l = ledger_of s m.samples in
    let k = scans rate d l c in
    let z : refusal_of s c p m ≡ 0 = sym ans.refused ∙ ok in
    let i = (entries-either rate d).either_order l c before behind a b e h in
    let st : r.receiver ≡ state_over s (closed rate c k) = ans.state ∙ ap (state_after s c m.samples) z ∙ accepted-state s c m.samples in
    let w : waiting_of r.receiver.waiting ≡ (closed rate c k).waiting = ap (λ (x : SigfoxReceiver). waiting_of x.waiting) st ∙ state-waiting s (closed rate c k) in
    let rs : records_of s c p m.samples (refusal_of s c p m) ≡ map frame_bytes (heard_in s c m) ++ map (record_of (mark_by p)) (map (event_of by_entry) (messages rate c k)) =
    ap (records_of s c p m.samples) z ∙ split s c p m in
    record {
      waiting = rw w i.waiting;
      written =
          (map (record_of (mark_by p)) (map (event_of by_entry) (messages rate c k)), ans.events ∙ ap (λ (x : List (List ℕ)). with_records x m.events) rs, ans.count ∙ ap length rs, i.records (mark_by p));
    }

pub two_arms : TwoArms
two_arms = record { code = contracts; ledger = frames-either; port = ends_alike }
