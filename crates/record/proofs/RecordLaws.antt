-- A frame's and a message's record from the runs that the code writes, and their length. Assumes nothing.
use mathlib.Core.Path.{◌≡◌, refl, ap, ap₂, ◌∙◌}
use mathlib.Core.List.{List, ◌++◌}
use Prim.Native.Nat.{ℕ, ◌+◌}
use native.Mathlib.Omega.{arith}
use lib.ListN.{length, length-append}
use lib.Seq.{sets}
use lib.IntN.{ℤ}
use lib.Ieee.{Float}
use Rattle.endian.specs.Bytes.{bytes_of}
use Rattle.endian.proofs.Numbers.{bytes-length}
use Rattle.frame.specs.declared.UplinkFrame.{UplinkFrame}
use Rattle.record.specs.Record.{no_rank, frame_marks, message_marks, spare, span_of, end_of, head_bytes, identity_bytes, level_bytes, rank_bytes, time_bytes, span_bytes, start_bytes, frame_head, message_head, frame_record, message_record}
use Rattle.record.specs.declared.Reception.{Reception}
use Rattle.record.specs.declared.SigfoxMessage.{SigfoxMessage}
use Rattle.record.specs.declared.parts.Head.{Head}
use Rattle.record.proofs.PartLaws.{whole, length-head, length-identity, length-levels, length-ranks, length-times, length_span}

-- of seven parts
length-seven : (p1 p2 p3 p4 p5 p6 p7 : List ℕ) → length p1 ≡ 8 → length p2 ≡ 28 → length p3 ≡ 8 → length p4 ≡ 4 → length p5 ≡ 16 → length p6 ≡ 48 → length p7 ≡ 8
    → length (p1 ++ (p2 ++ (p3 ++ (p4 ++ (p5 ++ (p6 ++ p7)))))) ≡ 120
length-seven p1 p2 p3 p4 p5 p6 p7 n1 n2 n3 n4 n5 n6 n7 =
    omega (
      arith,
      length-append p1 (p2 ++ (p3 ++ (p4 ++ (p5 ++ (p6 ++ p7))))),
      length-append p2 (p3 ++ (p4 ++ (p5 ++ (p6 ++ p7)))),
      length-append p3 (p4 ++ (p5 ++ (p6 ++ p7))),
      length-append p4 (p5 ++ (p6 ++ p7)),
      length-append p5 (p6 ++ p7),
      length-append p6 p7,
    )

module _ (f : UplinkFrame) (r : Reception) (n : length f.payload ≡ 12) (m : length f.auth ≡ 5) where
  pub length-frame : length (frame_record f r) ≡ 120
  unfolding frame_record
  length-frame =
      length-seven (head_bytes (frame_head f)) (identity_bytes f.device_id f.counter f.payload_len f.payload f.auth_len f.auth (frame_marks r)) (level_bytes r.clock_error_ppm r.rssi)
      (rank_bytes no_rank no_rank no_rank) (time_bytes r.time r.end) (spare 48) (start_bytes r.start)
      (length-head (frame_head f)) (length-identity f.device_id f.counter f.payload_len f.payload f.auth_len f.auth (frame_marks r) n m) (length-levels r.clock_error_ppm r.rssi)
      (length-ranks no_rank no_rank no_rank) (length-times r.time r.end) refl (bytes-length 8 r.start)

  pub frame-written : (h : Head) (z : ℤ) (l : List ℕ) (at : ℕ) (o1 o2 o3 o4 : List ℕ) → h ≡ frame_head f → z ≡ r.clock_error_ppm
      → o1 ≡ sets l at (head_bytes h ++ (identity_bytes f.device_id f.counter h.payload_len f.payload h.auth_len f.auth (frame_marks r) ++ level_bytes z r.rssi))
      → o2 ≡ sets o1 (at + 44) (rank_bytes no_rank no_rank no_rank ++ time_bytes r.time r.end) → o3 ≡ sets o2 (at + 64) (spare 48)
      → o4 ≡ sets o3 (at + 112) (bytes_of 8 r.start) → o4 ≡ sets l at (frame_record f r)
  unfolding frame_record
  frame-written h z l at o1 o2 o3 o4 eh ez e1 e2 e3 e4 =
      let identity : Head → List ℕ = λ x. identity_bytes f.device_id f.counter x.payload_len f.payload x.auth_len f.auth (frame_marks r) in
      whole l at (head_bytes (frame_head f)) (identity (frame_head f)) (level_bytes r.clock_error_ppm r.rssi)
      (rank_bytes no_rank no_rank no_rank) (time_bytes r.time r.end) (spare 48) (start_bytes r.start) o1 o2 o3 o4
      (length-head (frame_head f)) (length-identity f.device_id f.counter f.payload_len f.payload f.auth_len f.auth (frame_marks r) n m) (length-levels r.clock_error_ppm r.rssi)
      (length-ranks no_rank no_rank no_rank) (length-times r.time r.end) refl
      (e1 ∙ ap₂ (λ (x : Head) (y : ℤ). sets l at (head_bytes x ++ (identity x ++ level_bytes y r.rssi))) eh ez) e2 e3 e4

module _ (mark : ℕ) (m : SigfoxMessage) (n : length m.payload ≡ 12) (k : length m.auth ≡ 5) where
  abbrev spans : List ℕ
  spans = span_bytes (span_of m 0) ++ (span_bytes (span_of m 1) ++ span_bytes (span_of m 2))

  pub length-spans : length spans ≡ 48
  length-spans =
      omega (
        arith,
        length-append (span_bytes (span_of m 0)) (span_bytes (span_of m 1) ++ span_bytes (span_of m 2)),
        length-append (span_bytes (span_of m 1)) (span_bytes (span_of m 2)),
        length_span (span_of m 0),
        length_span (span_of m 1),
        length_span (span_of m 2),
      )

  abbrev ranks : List ℕ
  ranks = rank_bytes (span_of m 0).rank (span_of m 1).rank (span_of m 2).rank

  pub length-message : length (message_record mark m) ≡ 120
  unfolding message_record
  length-message =
      length-seven (head_bytes (message_head m)) (identity_bytes m.device_id m.counter m.payload_len m.payload m.auth_len m.auth (message_marks mark m)) (level_bytes m.clock_error_ppm m.rssi)
      ranks (time_bytes m.time (end_of m.first_frame_end)) spans (start_bytes m.start)
      (length-head (message_head m)) (length-identity m.device_id m.counter m.payload_len m.payload m.auth_len m.auth (message_marks mark m) n k) (length-levels m.clock_error_ppm m.rssi)
      (length-ranks (span_of m 0).rank (span_of m 1).rank (span_of m 2).rank) (length-times m.time (end_of m.first_frame_end)) length-spans (bytes-length 8 m.start)

  pub message-written : (h : Head) (z : ℤ) (end : Float) (l : List ℕ) (at : ℕ) (o1 o2 o3 o4 : List ℕ) → h ≡ message_head m → z ≡ m.clock_error_ppm → end ≡ end_of m.first_frame_end
      → o1 ≡ sets l at (head_bytes h ++ (identity_bytes m.device_id m.counter h.payload_len m.payload h.auth_len m.auth (message_marks mark m) ++ level_bytes z m.rssi))
      → o2 ≡ sets o1 (at + 44) (ranks ++ time_bytes m.time end) → o3 ≡ sets o2 (at + 64) spans
      → o4 ≡ sets o3 (at + 112) (bytes_of 8 m.start) → o4 ≡ sets l at (message_record mark m)
  unfolding message_record
  message-written h z end l at o1 o2 o3 o4 eh ez ee e1 e2 e3 e4 =
      let identity : Head → List ℕ = λ x. identity_bytes m.device_id m.counter x.payload_len m.payload x.auth_len m.auth (message_marks mark m) in
      let last = end_of m.first_frame_end in
      whole l at (head_bytes (message_head m)) (identity (message_head m)) (level_bytes m.clock_error_ppm m.rssi) ranks (time_bytes m.time last) spans (start_bytes m.start) o1 o2 o3 o4
      (length-head (message_head m)) (length-identity m.device_id m.counter m.payload_len m.payload m.auth_len m.auth (message_marks mark m) n k) (length-levels m.clock_error_ppm m.rssi)
      (length-ranks (span_of m 0).rank (span_of m 1).rank (span_of m 2).rank) (length-times m.time last) length-spans
      (e1 ∙ ap₂ (λ (x : Head) (y : ℤ). sets l at (head_bytes x ++ (identity x ++ level_bytes y m.rssi))) eh ez)
      (e2 ∙ ap (λ (x : Float). sets o1 (at + 44) (ranks ++ time_bytes m.time x)) ee) e3 e4
