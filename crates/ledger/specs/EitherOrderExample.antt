-- `EitherOrder` worked out, so that nobody can call it empty: a push in which one arm's frame opens a message and another arm's completes one, in both orders; a pair
-- whose order shows in the list; and two frames of one message, which may not change places.
use Rattle.std.specs.Prelude.{◌≡◌, refl, List, [], ◌∷◌, map, Bool, true, false, cond, ℕ, ◌+◌, ◌*◌, ◌≤◌, replicate, eqb, pos, Float, None, Some}
use Rattle.std.proofs.Common.{sym, ap, arith}
use Rattle.std.specs.Float.Ieee.{neg, of_int, lt, sub, add, mul, div, le, round}
use Rattle.floats.specs.Number.{num}
use Rattle.ledger.specs.Types.{DecodedFrame, Burst, Pending}
use Rattle.ledger.specs.Frames.{Frame, frame_at, key_of, rank_of, right_crc, time_of}
use Rattle.ledger.specs.Merge as merge
use Rattle.ledger.specs.Ledger as ledger
use Rattle.ledger.specs.Ledger.{Demod, Ledger, Message, by_frames, by_entry, Call, push, scans, closed, messages}
use Rattle.ledger.specs.EitherOrder.{joining, joins, scans_in}

-- a frame of a device, with a right CRC, rank and start second; it lasts a second
abbrev heard : ℕ → ℕ → ℕ → DecodedFrame
heard device rank second =
    record {
      frame =
          record {
            rank = rank;
            device_id = device;
            counter = 1;
            payload = replicate 12 0;
            payload_len = 0;
            bit = None;
            downlink = false;
            control = false;
            auth = replicate 5 0;
            auth_len = 2;
            crc_ok = true;
            repaired = None;
          };
      time = num second;
      end = num (second + 1);
      rssi = neg (num (60 + second));
      clock_error_ppm = pos 0;
      depth = 40 + second;
    }

abbrev frame_of : ℕ → ℕ → ℕ → Frame
frame_of device rank second = frame_at (200 * second) (heard device rank second)

-- ---- one push, at 200 samples/s: device 8 is heard for the first time, then device 7 for the third

abbrev burst_at : ℕ → Burst
burst_at start = record { start = start; end = start + 232; peak_dbm = neg (num 60); floor_dbm = neg (num 110) }

abbrev opens : DecodedFrame
opens = heard 8 0 1

abbrev completes : DecodedFrame
completes = heard 7 2 5

abbrev decoded : Bool → DecodedFrame
decoded first = cond first opens completes

pub two_ranks : (first : Bool) (x : DecodedFrame) → Some (decoded first) ≡ Some x → x.frame.rank ≤ 2
two_ranks true x e =
    let q : opens ≡ x = cc in
    let r : x.frame.rank ≡ 0 = ap (λ (y : DecodedFrame). y.frame.rank) (sym q) in
    omega arith
two_ranks false x e =
    let q : completes ≡ x = cc in
    let r : x.frame.rank ≡ 2 = ap (λ (y : DecodedFrame). y.frame.rank) (sym q) in
    omega arith

abbrev demo : Demod
demo =
    record {
      bursts = λ held. burst_at 200 ∷ burst_at 1000 ∷ [];
      decode = λ held t b. Some (decoded (eqb b.start 200));
      ranks = λ held t b x e. two_ranks (eqb b.start 200) x e;
    }

-- ranks 0 and 1 of device 7 came before
abbrev seven : Message
seven = record { first = frame_of 7 0 0; more = frame_of 7 1 0 ∷ [] }

abbrev before : Ledger by_frames
before = record { held = []; base = 0; unscanned = 0; starts = []; waiting = seven ∷ []; heard = [] }

-- 8 s of -110 dBm
abbrev call : Call
call = push (replicate 1600 (neg (num 110)))

abbrev a : Frame
a = frame_of 8 0 1

abbrev b : Frame
b = frame_of 7 2 5

abbrev eight : Message
eight = record { first = a; more = [] }

abbrev seven_whole : Message
seven_whole = record { first = frame_of 7 0 0; more = frame_of 7 1 0 ∷ b ∷ [] }

-- device 7's message is written, whole, and device 8's waits: as they were heard, and in the other order
pub in_one_push : (joining (scans 200 demo before call).heard ≡ a ∷ b ∷ [])
    × (messages 200 call (scans 200 demo before call) ≡ seven_whole ∷ [])
    × ((closed 200 call (scans 200 demo before call)).waiting ≡ eight ∷ [])
    × (messages 200 call (scans_in 200 demo before call (b ∷ a ∷ [])) ≡ seven_whole ∷ [])
    × ((closed 200 call (scans_in 200 demo before call (b ∷ a ∷ []))).waiting ≡ eight ∷ [])
unfolding joining joins key_of rank_of right_crc time_of le lt neg of_int sub add mul div round ledger.scans ledger.start_call ledger.fills ledger.fill ledger.halve ledger.amount ledger.add ledger.due ledger.scanned ledger.scan ledger.take_each ledger.take_one ledger.takes ledger.near ledger.hear ledger.remember ledger.join ledger.forget ledger.starts_from ledger.closed ledger.messages ledger.now ledger.seconds ledger.ready ledger.complete ledger.ranked ledger.latest ledger.chosen ledger.others
in_one_push = (refl, refl, refl, refl, refl)

-- ---- "The order in which they are listed may differ"

pub listed : (joins by_frames (frame_of 8 0 1 ∷ frame_of 9 0 5 ∷ []) [] ≡ record { first = frame_of 8 0 1; more = [] } ∷ record { first = frame_of 9 0 5; more = [] } ∷ [])
    × (joins by_frames (frame_of 9 0 5 ∷ frame_of 8 0 1 ∷ []) [] ≡ record { first = frame_of 9 0 5; more = [] } ∷ record { first = frame_of 8 0 1; more = [] } ∷ [])
unfolding joins key_of ledger.join
listed = (refl, refl)

-- ---- "of different device or different counter": two frames of one message are not alike in either order, in its time, its depth and in what joined last

abbrev times : List Frame → List Float
times fs = map (λ (e : Pending). e.message.time) (joins by_entry fs [])

abbrev depths : List Frame → List ℕ
depths fs = map (λ (e : Pending). e.message.depth) (joins by_entry fs [])

abbrev lasts : List Frame → List Float
lasts fs = map (λ (e : Pending). e.last) (joins by_entry fs [])

pub one_message : (times (frame_of 7 0 1 ∷ frame_of 7 1 5 ∷ []) ≡ num 1 ∷ []) × (lasts (frame_of 7 0 1 ∷ frame_of 7 1 5 ∷ []) ≡ num 5 ∷ [])
    × (times (frame_of 7 1 5 ∷ frame_of 7 0 1 ∷ []) ≡ num 5 ∷ []) × (lasts (frame_of 7 1 5 ∷ frame_of 7 0 1 ∷ []) ≡ num 1 ∷ [])
    × (depths (frame_of 7 0 1 ∷ frame_of 7 1 5 ∷ []) ≡ 41 ∷ []) × (depths (frame_of 7 1 5 ∷ frame_of 7 0 1 ∷ []) ≡ 45 ∷ [])
unfolding joins key_of time_of ledger.join merge.open_entry merge.merge merge.entry_key
one_message = (refl, refl, refl, refl, refl, refl)
