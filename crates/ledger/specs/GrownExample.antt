-- `Grown` worked out, so that nobody can call it empty: a push of 12 s with a frame of another device every 0.35 s, after which 27 messages wait; and what the causes
-- say of a state that is given with 40 and with 41 messages.
use Rattle.std.specs.Prelude.{◌≡◌, refl, List, [], ◌∷◌, true, false, ℕ, zero, suc, ◌+◌, ◌≤◌, length, replicate, pos, Float, None, Some}
use Rattle.std.proofs.Common.{sym, ap, arith}
use Rattle.std.specs.Float.{binary64}
use Rattle.std.specs.Float.Ieee.{neg, of_int, lt, sub, add, mul, div, le, eq, is_nan, round}
use Rattle.floats.specs.Number.{num}
use Rattle.limits.specs.Samples.{all_dbm}
use Rattle.shifts.specs.Shifts as shifts
use Rattle.shifts.specs.Shifts.{no_schedule}
use Rattle.ledger.specs.Types.{DecodedFrame, Burst}
use Rattle.ledger.specs.Frames.{frame_at, key_of, rank_of, right_crc, rssi_of, time_of, start_of}
use Rattle.ledger.specs.Merge as merge
use Rattle.ledger.specs.Ledger as ledger
use Rattle.ledger.specs.Ledger.{Demod, Ledger, Message, by_frames, Call, push, flush, fresh, scans, messages}
use Rattle.ledger.specs.Causes as causes
use Rattle.ledger.specs.Causes.{Lent, Attempt, number, after}

-- a frame of a device, with rank 0 and a right CRC
abbrev heard : ℕ → Float → DecodedFrame
heard device time =
    record {
      frame =
          record {
            rank = 0;
            device_id = device;
            counter = 1;
            payload = replicate 12 0;
            payload_len = 0;
            bit = None;
            downlink = false;
            control = false;
            auth = replicate 5 0;
            auth_len = 2;
            crc_ok = true;
            repaired = None;
          };
      time = time;
      end = time;
      rssi = neg (num 60);
      clock_error_ppm = pos 0;
      depth = 0;
    }

abbrev enough : Lent
enough = record { samples = 2400; events = 30720; scratch32 = 2400; scratch64 = 6000 }

abbrev ok : Call → Attempt
ok c = record { call = c; lent = enough; schedule = no_schedule }

-- ---- a demodulation that finds n bursts of 61 samples, a start every 70, each of another device; at 200 samples/s they last 0.3 s and a sample

unfoldable pub row : ℕ → ℕ → List Burst
row zero start = []
row (suc n) start = record { start = start; end = start + 61; peak_dbm = neg (num 60); floor_dbm = neg (num 110) } ∷ row n (start + 70)

abbrev frame_of : Float → ℕ → DecodedFrame
frame_of t start = heard start (add binary64 t (div binary64 (num start) (num 200)))

pub rank_is : (t : Float) (start : ℕ) (x : DecodedFrame) → Some (frame_of t start) ≡ Some x → x.frame.rank ≤ 2
rank_is t start x e =
    let q : frame_of t start ≡ x = cc in
    let r : x.frame.rank ≡ 0 = ap (λ (y : DecodedFrame). y.frame.rank) (sym q) in
    omega arith

abbrev demo : Demod
demo = record { bursts = λ held. row 33 10; decode = λ held t b. Some (frame_of t b.start); ranks = λ held t b x e. rank_is t b.start x e }

-- 12 s of -110 dBm
abbrev twelve : Call
twelve = push (replicate 2400 (neg (num 110)))

-- 33 frames are heard; the 6 messages of those that start over 10 s before the end are written, 27 wait, and none after a flush
pub worked_out : (length (scans 200 demo (fresh {K = by_frames}) twelve).heard ≡ 33)
    × (length (messages 200 twelve (scans 200 demo (fresh {K = by_frames}) twelve)) ≡ 6)
    × (length (after 200 demo (fresh {K = by_frames}) (ok twelve ∷ [])).waiting ≡ 27)
    × (length (after 200 demo (fresh {K = by_frames}) (ok twelve ∷ ok flush ∷ [])).waiting ≡ 0)
unfolding row key_of rank_of right_crc rssi_of time_of start_of all_dbm le lt eq neg of_int sub add mul div is_nan round causes.after causes.cause causes.call_cause causes.orderly causes.below causes.since causes.unlike causes.waits causes.all_fit causes.entry_fits causes.spans_fit causes.in_front causes.any_nan causes.entry_nan causes.end_nan causes.span_nan causes.first_of shifts.shifts_cause shifts.shifts_ok shifts.start_ok shifts.rising causes.after_call ledger.fresh ledger.scans ledger.start_call ledger.fills ledger.fill ledger.halve ledger.amount ledger.add ledger.due ledger.scanned ledger.scan ledger.take_each ledger.take_one ledger.takes ledger.near ledger.spaced ledger.hear ledger.remember ledger.join ledger.forget ledger.starts_from ledger.closed ledger.messages ledger.now ledger.seconds ledger.ready ledger.complete ledger.ranked ledger.latest ledger.chosen ledger.others merge.open_entry merge.merge_all merge.merge merge.meet merge.has merge.span_of merge.end_after merge.finished merge.or_else merge.lowest_later merge.known_of merge.entry_key
worked_out = (refl, refl, refl, refl)

-- ---- "count over 40 waiting as a state not in order, refusal 5"

-- n messages of different devices
unfoldable pub devices : ℕ → List Message
devices zero = []
devices (suc n) = record { first = frame_at 0 (heard n (num 0)); more = [] } ∷ devices n

abbrev given : ℕ → Ledger by_frames
given n = record { held = []; base = 0; unscanned = 0; starts = []; waiting = devices n; heard = [] }

abbrev numbers : ℕ → List ℕ
numbers n = number 200 (given n) (ok (push [])) ∷ number 200 (given n) (ok flush) ∷ []

-- 40 are accepted at a push and at a flush, 41 and 128 are refused at both
pub at_forty : (numbers 40 ≡ 0 ∷ 0 ∷ []) × (numbers 41 ≡ 5 ∷ 5 ∷ []) × (numbers 128 ≡ 5 ∷ 5 ∷ [])
unfolding devices key_of rank_of right_crc rssi_of time_of start_of all_dbm le lt eq neg of_int sub add mul div is_nan round causes.cause causes.call_cause causes.orderly causes.below causes.since causes.unlike causes.waits causes.all_fit causes.entry_fits causes.spans_fit causes.in_front causes.any_nan causes.entry_nan causes.end_nan causes.span_nan causes.first_of shifts.shifts_cause shifts.shifts_ok shifts.start_ok shifts.rising ledger.spaced merge.open_entry merge.merge_all merge.merge merge.meet merge.has merge.span_of merge.end_after merge.finished merge.or_else merge.lowest_later merge.known_of merge.entry_key
at_forty = (refl, refl, refl)
