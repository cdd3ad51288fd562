-- One run worked out, so that nobody can call the claims empty. At 200 samples/s a frame from 1.00 to 2.45 s is heard in the push that brings 3 s; a push with short
-- scratch is refused with 2; the message is written in the push that brings 11.1 s, or in a flush where that comes first.
use Rattle.std.specs.Prelude.{◌≡◌, refl, List, [], ◌∷◌, map, Bool, true, false, cond, ℕ, ◌≤◌, length, replicate, leb, pos, Float, Option, None, Some}
use Rattle.std.proofs.Common.{sym, ap, arith, leb-true}
use Rattle.std.specs.Float.{binary64}
use Rattle.std.specs.Float.Ieee.{neg, of_int, lt, sub, add, mul, div, le, eq, is_nan, round, to_unsigned}
use Rattle.floats.specs.Number.{num}
use Rattle.endian.specs.Bytes.{bytes_of}
use Rattle.record.specs.Record.{up_to, head_bytes, mark_bytes, identity_bytes, frame_record, message_record}
use Rattle.record.specs.Readers.{depth_of, mark_of}
use Rattle.limits.specs.Samples.{all_dbm}
use Rattle.shifts.specs.Shifts as shifts
use Rattle.shifts.specs.Shifts.{Schedule, no_schedule, mark_by}
use Rattle.ledger.specs.Types.{DecodedFrame, Burst}
use Rattle.ledger.specs.Frames.{key_of, rank_of, right_crc, rssi_of, time_of, start_of}
use Rattle.ledger.specs.Merge as merge
use Rattle.ledger.specs.Ledger as ledger
use Rattle.ledger.specs.Ledger.{Demod, Ledger, by_frames, Call, push, flush, fresh}
use Rattle.ledger.specs.Causes as causes
use Rattle.ledger.specs.Causes.{Lent, Attempt, after_call, call_events}
use Rattle.ledger.specs.Demand3.{SeenFrame, SeenMessage, Seen, frame, message, Turn}
use Rattle.ledger.specs.Records.{record_of}
use Rattle.ledger.specs.Room.{Row, Fair}
use Rattle.ledger.specs.History.{see_frame, mask_of, see_message, see, history, run_of}

-- a demodulation that knows one burst, and what it decodes to: rank 0, a right CRC, device 7, counter 1, -60 dBm
abbrev heard : DecodedFrame
heard =
    record {
      frame =
          record {
            rank = 0;
            device_id = 7;
            counter = 1;
            payload = 0 ∷ 0 ∷ 0 ∷ 0 ∷ 0 ∷ 0 ∷ 0 ∷ 0 ∷ 0 ∷ 0 ∷ 0 ∷ 0 ∷ [];
            payload_len = 2;
            bit = None;
            downlink = false;
            control = false;
            auth = 0 ∷ 0 ∷ 0 ∷ 0 ∷ 0 ∷ [];
            auth_len = 4;
            crc_ok = true;
            repaired = None;
          };
      time = num 1;
      end = div binary64 (num 49) (num 20);
      rssi = neg (num 60);
      clock_error_ppm = pos 0;
      depth = 45;
    }

pub rank_is : (x : DecodedFrame) → Some heard ≡ Some x → x.frame.rank ≤ 2
rank_is x e =
    let q : heard ≡ x = cc in
    let r : x.frame.rank ≡ 0 = ap (λ (y : DecodedFrame). y.frame.rank) (sym q) in
    omega arith

abbrev the_burst : Burst
the_burst = record { start = 200; end = 490; peak_dbm = neg (num 60); floor_dbm = neg (num 110) }

abbrev demo : Demod
demo =
    record {
      bursts = λ held. cond (leb 490 (length held)) (the_burst ∷ []) [];
      decode = λ held t b. Some heard;
      ranks = λ held t b x e. rank_is x e;
    }

abbrev enough : Lent
enough = record { samples = 2400; events = 30720; scratch32 = 2400; scratch64 = 6000 }

abbrev too_little : Lent
too_little = record { samples = 2400; events = 30720; scratch32 = 2400; scratch64 = 5999 }

-- 3 s and 8.1 s of -110 dBm
abbrev three : Call
three = push (replicate 600 (neg (num 110)))

abbrev eight : Call
eight = push (replicate 1620 (neg (num 110)))

abbrev the_frame : SeenFrame
the_frame = record { key = record { device = 7; counter = 1 }; rank = 0; right = true; rssi = neg (num 60); time = num 1; start = 200 }

abbrev the_message : SeenMessage
the_message = record { key = record { device = 7; counter = 1 }; mask = 1; rssi = neg (num 60); time = num 1; start = 200 }

abbrev ok : Call → Attempt
ok c = record { call = c; lent = enough; schedule = no_schedule }

abbrev accepted : Call → List Seen → Turn
accepted c rs = record { call = c; refusal = 0; records = rs }

pub worked_out : (run_of 200 demo (ok three ∷ record { call = eight; lent = too_little; schedule = no_schedule } ∷ ok eight ∷ [])
    ≡ accepted three (frame the_frame ∷ []) ∷ record { call = eight; refusal = 2; records = [] } ∷ accepted eight (message the_message ∷ []) ∷ [])
    × (run_of 200 demo (ok three ∷ ok flush ∷ []) ≡ accepted three (frame the_frame ∷ []) ∷ accepted flush (message the_message ∷ []) ∷ [])
unfolding history see see_frame see_message mask_of key_of rank_of right_crc rssi_of time_of start_of all_dbm le lt eq neg of_int sub add mul div is_nan round causes.cause causes.call_cause causes.orderly causes.below causes.since causes.unlike causes.waits causes.all_fit causes.entry_fits causes.spans_fit causes.in_front causes.any_nan causes.entry_nan causes.end_nan causes.span_nan causes.first_of shifts.shifts_cause shifts.shifts_ok shifts.start_ok shifts.rising causes.call_events causes.after_call ledger.fresh ledger.scans ledger.start_call ledger.fills ledger.fill ledger.halve ledger.amount ledger.add ledger.due ledger.scanned ledger.scan ledger.take_each ledger.take_one ledger.takes ledger.near ledger.spaced ledger.hear ledger.remember ledger.join ledger.forget ledger.starts_from ledger.closed ledger.messages ledger.now ledger.seconds ledger.ready ledger.complete ledger.ranked ledger.latest ledger.chosen ledger.others merge.open_entry merge.merge_all merge.merge merge.meet merge.has merge.span_of merge.end_after merge.finished merge.or_else merge.lowest_later merge.known_of merge.entry_key
worked_out = (refl, refl)

-- ---- shifts (02, request 03)

abbrev given : Option ℕ → ℕ → ℕ → List ℕ → Schedule
given start a e closed =
    record { shifts = record { start = start; windows = record { start = a; end = e } ∷ replicate 31 (record { start = 0; end = 0 }); count = 1 }; closed = closed }

abbrev sent : Lent → Schedule → Attempt
sent b p = record { call = three; lent = b; schedule = p }

-- closed dates that don't rise are refused with 11, after 2
pub refused : run_of 200 demo (sent enough (given None 0 1 (3 ∷ 3 ∷ [])) ∷ sent too_little (given None 0 1 (3 ∷ 3 ∷ [])) ∷ [])
    ≡ record { call = three; refusal = 11; records = [] } ∷ record { call = three; refusal = 2; records = [] } ∷ []
unfolding history see all_dbm le lt eq neg of_int is_nan round causes.cause causes.call_cause causes.orderly causes.below causes.since causes.unlike causes.all_fit causes.any_nan causes.first_of shifts.shifts_cause shifts.shifts_ok shifts.start_ok shifts.rising shifts.rising_from causes.call_events causes.after_call ledger.fresh ledger.spaced
refused = refl

-- byte 34 of the records of an accepted call
abbrev marks : Schedule → Ledger by_frames → Call → List ℕ
marks p l c = map mark_of (map (record_of (mark_by p)) (call_events 200 demo l c 0))

-- and byte 33
abbrev depths : Ledger by_frames → Call → List ℕ
depths l c = map depth_of (map (record_of (mark_by no_schedule)) (call_events 200 demo l c 0))

abbrev heard_then : Ledger by_frames
heard_then = after_call 200 demo fresh three 0

-- the message came at 1 s, whenever it is written: the first minute of Monday where the stream began at 0, the second where it began at 59, and a closed date; a frame has no mark. Both have the depth
pub marked : (marks (given (Some 0) 0 1 []) heard_then flush ≡ 1 ∷ []) × (marks (given (Some 59) 0 1 []) heard_then flush ≡ 2 ∷ [])
    × (marks (given (Some 0) 0 1 (0 ∷ [])) heard_then flush ≡ 2 ∷ []) × (marks (given None 0 1 (0 ∷ [])) heard_then flush ≡ 0 ∷ [])
    × (marks (given (Some 0) 0 1 []) fresh three ≡ 0 ∷ []) × (depths fresh three ≡ 45 ∷ []) × (depths heard_then flush ≡ 45 ∷ [])
unfolding record_of frame_record message_record head_bytes identity_bytes mark_bytes up_to bytes_of key_of rank_of right_crc rssi_of time_of start_of all_dbm le lt eq neg of_int sub add mul div is_nan round to_unsigned shifts.mark_from shifts.mark_at shifts.holds causes.call_events causes.after_call ledger.fresh ledger.scans ledger.start_call ledger.fills ledger.fill ledger.halve ledger.amount ledger.add ledger.due ledger.scanned ledger.scan ledger.take_each ledger.take_one ledger.takes ledger.near ledger.spaced ledger.hear ledger.remember ledger.join ledger.forget ledger.starts_from ledger.closed ledger.messages ledger.now ledger.seconds ledger.ready ledger.complete ledger.ranked ledger.latest ledger.chosen ledger.others merge.open_entry merge.merge_all merge.merge merge.meet merge.has merge.span_of merge.end_after merge.finished merge.or_else merge.lowest_later merge.known_of merge.entry_key
marked = (refl, refl, refl, refl, refl, refl, refl)

-- what the bounds need of a demodulation can be had too
pub demo_fair : Fair 200 demo
demo_fair =
    record {
      row = λ held small. fits held (leb 490 (length held)) (leb-true 490 (length held));
      payload = λ held t b x e. two_bytes x e;
      auth = λ held t b x e. four_bytes x e;
    }
  where
    fits : (held : List Float) (c : Bool) → (c ≡ true → 490 ≤ length held) → Row 200 (length held) 0 (cond c (the_burst ∷ []) [])
    fits held true h = (omega arith, omega arith, h refl, tt)
    fits held false h = tt

    two_bytes : (x : DecodedFrame) → Some heard ≡ Some x → x.frame.payload_len ≤ 12
    two_bytes x e =
        let q : heard ≡ x = cc in
        let r : x.frame.payload_len ≡ 2 = ap (λ (y : DecodedFrame). y.frame.payload_len) (sym q) in
        omega arith

    four_bytes : (x : DecodedFrame) → Some heard ≡ Some x → x.frame.auth_len ≤ 5
    four_bytes x e =
        let q : heard ≡ x = cc in
        let r : x.frame.auth_len ≡ 4 = ap (λ (y : DecodedFrame). y.frame.auth_len) (sym q) in
        omega arith
