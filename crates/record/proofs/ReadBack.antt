-- What the readers give of a frame's and of a message's record: the fields that it was made of. Assumes nothing.
use mathlib.Core.Path.{◌≡◌, refl, ap, ◌∙◌}
use mathlib.Core.Bool.{Bool, true, false, cond}
use mathlib.Core.List.{List, [], ◌∷◌, ◌++◌}
use Prim.Native.Nat.{ℕ, zero, suc, ◌+◌, ◌*◌, ◌≤◌, ◌<◌}
use native.Mathlib.Nat.{not-suc-le-zero, le_of_suc-le-suc}
use native.Mathlib.Omega.{arith}
use lib.Dec.{T, eqb}
use lib.ListN.{length, get_or}
use lib.Ieee.{Float, binary64, fits, of_bits}
use lib.Ieee.Bits.{of_bits-to_bits}
use Rattle.endian.specs.Bytes.{bytes_of, bits_of, number_of, number_at}
use Rattle.endian.proofs.Numbers.{bytes-length}
use Rattle.endian.proofs.Values.{pattern-small}
use Rattle.frame.specs.declared.UplinkFrame.{UplinkFrame}
use Rattle.record.specs.Record as rec
use Rattle.record.specs.Record.{frame_kind, message_kind, no_rank, frame_marks, message_marks, frame_flags, message_flags, repair_number, repair_place, mask_of, span_of, spare, up_to, time_bytes, span_bytes, rank_bytes, frame_head, message_head, frame_record, message_record}
use Rattle.record.specs.Readers.{kind_of, rank_of, flags_of, payload_len_of, auth_len_of, repair_of, place_of, device_of, counter_of, payload_of, auth_of, depth_of, mark_of, ppm_of, rssi_of, span_rank_of, time_of, end_of, span_time_of, span_end_of, start_of}
use Rattle.record.specs.declared.Reception.{Reception}
use Rattle.record.specs.declared.FrameSpan.{FrameSpan}
use Rattle.record.specs.declared.SigfoxMessage.{SigfoxMessage}
use Rattle.record.proofs.PartLaws.{length_span}
use Rattle.record.proofs.RecordLaws.{length-spans}
use Rattle.record.proofs.JoinLaws.{number-part, number_of_part}
use Rattle.record.proofs.ReaderLaws.{Fields, Sized, Held, at_spans, read_place, read_device, read_counter, read_payload, read_auth, read_depth, read_mark, read_ppm, read_rssi, read_span_rank, read_time, read_end, read_start}

-- ---- frames

abbrev pub frame_fields : UplinkFrame → Reception → Fields
frame_fields f r = record {
  head = frame_head f;
  device = f.device_id;
  counter = f.counter;
  payload = f.payload;
  auth = f.auth;
  marks = frame_marks r;
  ppm = r.clock_error_ppm;
  rssi = r.rssi;
  rank0 = no_rank;
  rank1 = no_rank;
  rank2 = no_rank;
  time = r.time;
  end = r.end;
  spans = spare 48;
  start = r.start;
}

pub frame-sized : (f : UplinkFrame) (r : Reception) → length f.payload ≡ 12 → length f.auth ≡ 5 → Sized (frame_fields f r)
frame-sized f r n k = record { payload_held = n; auth_held = k; spans_held = refl }

no_span : (i : ℕ) → i < 3 → get_or (rank_bytes no_rank no_rank no_rank) i 0 ≡ no_rank
unfolding rank_bytes
no_span zero b = refl
no_span (suc zero) b = refl
no_span (suc (suc zero)) b = refl
no_span (suc (suc (suc i))) b = absurd (not-suc-le-zero (le_of_suc-le-suc (le_of_suc-le-suc (le_of_suc-le-suc b))))

pub record FrameRead (f : UplinkFrame) (r : Reception) (l : List ℕ) : Type 0 where
  pub kind : kind_of l ≡ frame_kind
  pub rank : rank_of l ≡ f.rank
  pub flags : flags_of l ≡ frame_flags f
  pub payload-len : payload_len_of l ≡ f.payload_len
  pub auth-len : auth_len_of l ≡ f.auth_len
  pub repair : repair_of l ≡ repair_number f.repaired
  pub place : place_of l ≡ repair_place f.repaired
  pub device : device_of l ≡ f.device_id
  pub counter : counter_of l ≡ f.counter
  pub payload : payload_of l ≡ up_to f.payload_len f.payload
  pub auth : auth_of l ≡ up_to f.auth_len f.auth
  pub depth : depth_of l ≡ r.depth
  pub marked : mark_of l ≡ 0
  pub ppm : ppm_of l ≡ r.clock_error_ppm
  pub rssi : rssi_of l ≡ r.rssi
  pub time : time_of l ≡ r.time
  pub end : end_of l ≡ r.end
  pub start : start_of l ≡ r.start
  pub span_rank : (i : ℕ) → i < 3 → span_rank_of l i ≡ no_rank

pub frame_read : (f : UplinkFrame) (r : Reception) → Held (frame_fields f r) → FrameRead f r (frame_record f r)
unfolding frame_record rec.head_bytes
frame_read f r h =
    let x = frame_fields f r in
    record {
      kind = refl;
      rank = refl;
      flags = refl;
      payload-len = refl;
      auth-len = refl;
      repair = refl;
      place = read_place x h.sized h.place_held;
      device = read_device x h.sized h.device_held;
      counter = read_counter x h.sized h.counter_held;
      payload = read_payload x h.sized;
      auth = read_auth x h.sized;
      depth = read_depth x h.sized;
      marked = read_mark x h.sized;
      ppm = read_ppm x h.sized h.ppm_held;
      rssi = read_rssi x h.sized h.rssi_held;
      time = read_time x h.sized h.time_held;
      end = read_end x h.sized h.end_held;
      start = read_start x h.sized h.start_held;
      span_rank = λ i b. read_span_rank x h.sized i (omega arith) ∙ no_span i b;
    }

-- ---- messages

abbrev pub message_fields : ℕ → SigfoxMessage → Fields
message_fields mark m = record {
  head = message_head m;
  device = m.device_id;
  counter = m.counter;
  payload = m.payload;
  auth = m.auth;
  marks = message_marks mark m;
  ppm = m.clock_error_ppm;
  rssi = m.rssi;
  rank0 = (span_of m 0).rank;
  rank1 = (span_of m 1).rank;
  rank2 = (span_of m 2).rank;
  time = m.time;
  end = rec.end_of m.first_frame_end;
  spans = span_bytes (span_of m 0) ++ (span_bytes (span_of m 1) ++ span_bytes (span_of m 2));
  start = m.start;
}

pub message-sized : (mark : ℕ) (m : SigfoxMessage) → length m.payload ≡ 12 → length m.auth ≡ 5 → Sized (message_fields mark m)
message-sized mark m n k = record { payload_held = n; auth_held = k; spans_held = length-spans mark m n k }

-- a span's time as it is written: 0 where there is no span
abbrev pub written : FrameSpan → Float → Float
written s t = cond (eqb s.rank no_rank) (of_bits binary64 0) t

module _ (s : FrameSpan) where
  span_time : T (fits binary64 s.time) → of_bits binary64 (number_at 8 (span_bytes s) 0) ≡ written s s.time
  unfolding span_bytes time_bytes number_at number_of
  span_time h = go (eqb s.rank no_rank)
    where
      go : (b : Bool) → of_bits binary64 (number_at 8 (cond b (spare 16) (time_bytes s.time s.end)) 0) ≡ cond b (of_bits binary64 0) s.time
      go true = refl
      go false =
          ap (of_bits binary64)
          (number_of_part (bytes_of 8 (bits_of binary64 s.time)) (bytes_of 8 (bits_of binary64 s.end) ∷ []) 0 0 8 (bits_of binary64 s.time) refl refl
          (pattern-small binary64 8 s.time refl h))
          ∙ of_bits-to_bits binary64 s.time h

  span_end : T (fits binary64 s.end) → of_bits binary64 (number_at 8 (span_bytes s) 8) ≡ written s s.end
  unfolding span_bytes time_bytes number_at number_of
  span_end h = go (eqb s.rank no_rank)
    where
      go : (b : Bool) → of_bits binary64 (number_at 8 (cond b (spare 16) (time_bytes s.time s.end)) 8) ≡ cond b (of_bits binary64 0) s.end
      go true = refl
      go false =
          ap (of_bits binary64)
          (number_of_part (bytes_of 8 (bits_of binary64 s.time)) (bytes_of 8 (bits_of binary64 s.end) ∷ []) 1 8 8 (bits_of binary64 s.end)
          (omega (arith, bytes-length 8 (bits_of binary64 s.time))) refl (pattern-small binary64 8 s.end refl h))
          ∙ of_bits-to_bits binary64 s.end h

module _ (mark : ℕ) (m : SigfoxMessage) (h : Held (message_fields mark m)) where
  -- span i's bytes among those of the spans
  among : (i o : ℕ) → i < 3 → o + 8 ≤ 16 → number_at 8 (message_fields mark m).spans (16 * i + o) ≡ number_at 8 (span_bytes (span_of m i)) o
  among zero o b k = number-part (span_bytes (span_of m 0)) (span_bytes (span_of m 1) ∷ span_bytes (span_of m 2) ∷ []) 0 (16 * 0 + o) 8 o (omega arith) (omega (arith, length_span (span_of m 0)))
  among (suc zero) o b k =
      number-part (span_bytes (span_of m 0)) (span_bytes (span_of m 1) ∷ span_bytes (span_of m 2) ∷ []) 1 (16 * 1 + o) 8 o
      (omega (arith, length_span (span_of m 0))) (omega (arith, length_span (span_of m 1)))
  among (suc (suc zero)) o b k =
      number-part (span_bytes (span_of m 0)) (span_bytes (span_of m 1) ∷ span_bytes (span_of m 2) ∷ []) 2 (16 * 2 + o) 8 o
      (omega (arith, length_span (span_of m 0), length_span (span_of m 1))) (omega (arith, length_span (span_of m 2)))
  among (suc (suc (suc i))) o b k = absurd (not-suc-le-zero (le_of_suc-le-suc (le_of_suc-le-suc (le_of_suc-le-suc b))))

  in_span : (i o at : ℕ) → i < 3 → o + 8 ≤ 16 → at ≡ 64 + (16 * i + o) → number_at 8 (message_record mark m) at ≡ number_at 8 (span_bytes (span_of m i)) o
  unfolding message_record
  in_span i o at b k e = at_spans (message_fields mark m) h.sized 8 (16 * i + o) at e (omega arith) ∙ among i o b k

  rank_of_span : (i : ℕ) → i < 3 → span_rank_of (message_record mark m) i ≡ (span_of m i).rank
  unfolding message_record rank_bytes
  rank_of_span zero b = read_span_rank (message_fields mark m) h.sized 0 (omega arith)
  rank_of_span (suc zero) b = read_span_rank (message_fields mark m) h.sized 1 (omega arith)
  rank_of_span (suc (suc zero)) b = read_span_rank (message_fields mark m) h.sized 2 (omega arith)
  rank_of_span (suc (suc (suc i))) b = absurd (not-suc-le-zero (le_of_suc-le-suc (le_of_suc-le-suc (le_of_suc-le-suc b))))

  time_of_span : (i : ℕ) → i < 3 → T (fits binary64 (span_of m i).time) → span_time_of (message_record mark m) i ≡ written (span_of m i) (span_of m i).time
  time_of_span i b t = ap (of_bits binary64) (in_span i 0 (64 + 16 * i) b (omega arith) (omega arith)) ∙ span_time (span_of m i) t

  end_of_span : (i : ℕ) → i < 3 → T (fits binary64 (span_of m i).end) → span_end_of (message_record mark m) i ≡ written (span_of m i) (span_of m i).end
  end_of_span i b t = ap (of_bits binary64) (in_span i 8 (72 + 16 * i) b (omega arith) (omega arith)) ∙ span_end (span_of m i) t

pub record MessageRead (mark : ℕ) (m : SigfoxMessage) (l : List ℕ) : Type 0 where
  pub kind : kind_of l ≡ message_kind
  pub mask : rank_of l ≡ mask_of m
  pub flags : flags_of l ≡ message_flags m
  pub payload-len : payload_len_of l ≡ m.payload_len
  pub auth-len : auth_len_of l ≡ m.auth_len
  pub repair : repair_of l ≡ 0
  pub place : place_of l ≡ 0
  pub device : device_of l ≡ m.device_id
  pub counter : counter_of l ≡ m.counter
  pub payload : payload_of l ≡ up_to m.payload_len m.payload
  pub auth : auth_of l ≡ up_to m.auth_len m.auth
  pub depth : depth_of l ≡ m.depth
  pub marked : mark_of l ≡ mark
  pub ppm : ppm_of l ≡ m.clock_error_ppm
  pub rssi : rssi_of l ≡ m.rssi
  pub time : time_of l ≡ m.time
  pub first_frame_end : end_of l ≡ rec.end_of m.first_frame_end
  pub start : start_of l ≡ m.start
  pub span_rank : (i : ℕ) → i < 3 → span_rank_of l i ≡ (span_of m i).rank
  pub span_start : (i : ℕ) → i < 3 → T (fits binary64 (span_of m i).time) → span_time_of l i ≡ written (span_of m i) (span_of m i).time
  pub span_stop : (i : ℕ) → i < 3 → T (fits binary64 (span_of m i).end) → span_end_of l i ≡ written (span_of m i) (span_of m i).end

pub message_read : (mark : ℕ) (m : SigfoxMessage) → Held (message_fields mark m) → MessageRead mark m (message_record mark m)
unfolding message_record rec.head_bytes
message_read mark m h =
    let x = message_fields mark m in
    record {
      kind = refl;
      mask = refl;
      flags = refl;
      payload-len = refl;
      auth-len = refl;
      repair = refl;
      place = read_place x h.sized h.place_held;
      device = read_device x h.sized h.device_held;
      counter = read_counter x h.sized h.counter_held;
      payload = read_payload x h.sized;
      auth = read_auth x h.sized;
      depth = read_depth x h.sized;
      marked = read_mark x h.sized;
      ppm = read_ppm x h.sized h.ppm_held;
      rssi = read_rssi x h.sized h.rssi_held;
      time = read_time x h.sized h.time_held;
      first_frame_end = read_end x h.sized h.end_held;
      start = read_start x h.sized h.start_held;
      span_rank = rank_of_span mark m h;
      span_start = time_of_span mark m h;
      span_stop = end_of_span mark m h;
    }
