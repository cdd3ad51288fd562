-- Each reader gives back the field that a record was made with: one law for frames and messages. Assumes nothing.
use mathlib.Core.Path.{◌≡◌, refl, ap, ◌∙◌}
use mathlib.Core.List.{List, [], ◌∷◌}
use Prim.Native.Nat.{ℕ, ◌+◌, ◌^◌, ◌≤◌, ◌<◌}
use native.Mathlib.Omega.{arith}
use lib.Dec.{T, lit<}
use lib.ListN.{length, get_or}
use lib.IntN.{ℤ, negsuc}
use lib.Signed.{mag}
use lib.Ieee.{Float, binary32, binary64, fits, nan, of_bits}
use lib.Ieee.Bits.{of_bits-to_bits}
use Rattle.endian.specs.Bytes.{bytes_of, bits_of, signed_bits, signed_of, number_at}
use Rattle.endian.proofs.Numbers.{bytes-length}
use Rattle.endian.proofs.Values.{signed-small, signed_back, pattern-small}
use Rattle.frame.specs.Fields.{byte_at}
use Rattle.record.specs.Record.{spare, up_to, head_bytes, mark_bytes, identity_bytes, level_bytes, rank_bytes, time_bytes, start_bytes}
use Rattle.record.specs.Readers.{kind_of, rank_of, flags_of, payload_len_of, auth_len_of, repair_of, place_of, device_of, counter_of, payload_of, auth_of, depth_of, mark_of, ppm_of, rssi_of, span_rank_of, time_of, end_of, start_of}
use Rattle.record.specs.declared.parts.Head.{Head}
use Rattle.record.specs.declared.parts.Marks.{Marks}
use Rattle.record.proofs.PartLaws.{length_up_to, length-head, length-marks, length-identity, length-levels, length-ranks, length-times}
use Rattle.record.proofs.JoinLaws.{joined, pick, before, part, number-part, whole_part, number_of_part, byte-part}

-- what a record is made of
pub record Fields : Type 0 where
  pub head : Head
  pub device : ℕ
  pub counter : ℕ
  pub payload : List ℕ
  pub auth : List ℕ
  pub marks : Marks
  pub ppm : ℤ
  pub rssi : Float
  pub rank0 : ℕ
  pub rank1 : ℕ
  pub rank2 : ℕ
  pub time : Float
  pub end : Float
  pub spans : List ℕ
  pub start : ℕ

-- the lists are as long as the table says: then every field stands in its place
pub record Sized (x : Fields) : Type 0 where
  pub payload_held : length x.payload ≡ 12
  pub auth_held : length x.auth ≡ 5
  pub spans_held : length x.spans ≡ 48

-- each field has the width that the table gives it
pub record Held (x : Fields) : Type 0 where
  pub sized : Sized x
  pub place_held : x.head.place < 256 ^ 2
  pub device_held : x.device < 256 ^ 4
  pub counter_held : x.counter < 256 ^ 2
  pub ppm_held : mag x.ppm < 2 ^ 31
  pub rssi_held : T (fits binary32 x.rssi)
  pub time_held : T (fits binary64 x.time)
  pub end_held : T (fits binary64 x.end)
  pub start_held : x.start < 256 ^ 8

abbrev pub identity : Fields → List ℕ
identity x = identity_bytes x.device x.counter x.head.payload_len x.payload x.head.auth_len x.auth x.marks

-- the parts after the first
abbrev pub parts : Fields → List (List ℕ)
parts x =
    identity x ∷ level_bytes x.ppm x.rssi ∷ rank_bytes x.rank0 x.rank1 x.rank2 ∷ time_bytes x.time x.end ∷ x.spans ∷ start_bytes x.start ∷ []

abbrev pub made : Fields → List ℕ
made x = joined (head_bytes x.head) (parts x)

module _ (x : Fields) where
  pub read_kind : kind_of (made x) ≡ x.head.kind
  unfolding head_bytes
  read_kind = refl

  pub read_rank : rank_of (made x) ≡ x.head.rank
  unfolding head_bytes
  read_rank = refl

  pub read_flags : flags_of (made x) ≡ x.head.flags
  unfolding head_bytes
  read_flags = refl

  pub read_payload-len : payload_len_of (made x) ≡ x.head.payload_len
  unfolding head_bytes
  read_payload-len = refl

  pub read_auth-len : auth_len_of (made x) ≡ x.head.auth_len
  unfolding head_bytes
  read_auth-len = refl

  pub read_repair : repair_of (made x) ≡ x.head.repair
  unfolding head_bytes
  read_repair = refl

-- a reader needs the width of its own field alone
module _ (x : Fields) (h : Sized x) where
  n1 : length (head_bytes x.head) ≡ 8
  n1 = length-head x.head

  n2 : length (identity x) ≡ 28
  n2 = length-identity x.device x.counter x.head.payload_len x.payload x.head.auth_len x.auth x.marks h.payload_held h.auth_held

  n3 : length (level_bytes x.ppm x.rssi) ≡ 8
  n3 = length-levels x.ppm x.rssi

  n4 : length (rank_bytes x.rank0 x.rank1 x.rank2) ≡ 4
  n4 = length-ranks x.rank0 x.rank1 x.rank2

  n5 : length (time_bytes x.time x.end) ≡ 16
  n5 = length-times x.time x.end

  -- a number of the table at a place of part j
  at_part : (j k i at : ℕ) → at ≡ before (head_bytes x.head) (parts x) j + i → i + k ≤ length (pick (head_bytes x.head) (parts x) j)
      → number_at k (made x) at ≡ number_at k (pick (head_bytes x.head) (parts x) j) i
  at_part j k i at e b = number-part (head_bytes x.head) (parts x) j at k i e b

  -- a number of the spans
  pub at_spans : (k i at : ℕ) → at ≡ 64 + i → i + k ≤ 48 → number_at k (made x) at ≡ number_at k x.spans i
  at_spans k i at e b = at_part 5 k i at (omega (arith, n1, n2, n3, n4, n5)) (omega (arith, h.spans_held))

  pub read_place : x.head.place < 256 ^ 2 → place_of (made x) ≡ x.head.place
  unfolding head_bytes
  read_place b =
      at_part 0 2 6 6 refl (omega (arith, n1))
      ∙ number_of_part (x.head.kind ∷ x.head.rank ∷ x.head.flags ∷ x.head.payload_len ∷ x.head.auth_len ∷ x.head.repair ∷ [])
      (bytes_of 2 x.head.place ∷ []) 1 6 2 x.head.place refl refl b

  -- the identity's fields
  abbrev payload : List ℕ
  payload = up_to x.head.payload_len x.payload

  abbrev auth : List ℕ
  auth = up_to x.head.auth_len x.auth

  length-payload : length payload ≡ 12
  length-payload = length_up_to x.head.payload_len x.payload ∙ h.payload_held

  length-auth : length auth ≡ 5
  length-auth = length_up_to x.head.auth_len x.auth ∙ h.auth_held

  abbrev later : List (List ℕ)
  later = bytes_of 2 x.counter ∷ spare 2 ∷ payload ∷ auth ∷ mark_bytes x.marks ∷ []

  pub read_device : x.device < 256 ^ 4 → device_of (made x) ≡ x.device
  unfolding identity_bytes
  read_device b =
      at_part 1 4 0 8 (omega (arith, n1)) (omega (arith, n2))
      ∙ number_of_part (bytes_of 4 x.device) later 0 0 4 x.device refl refl b

  pub read_counter : x.counter < 256 ^ 2 → counter_of (made x) ≡ x.counter
  unfolding identity_bytes
  read_counter b =
      at_part 1 2 4 12 (omega (arith, n1)) (omega (arith, n2))
      ∙ number_of_part (bytes_of 4 x.device) later 1 4 2 x.counter (omega (arith, bytes-length 4 x.device)) refl b

  pub read_ppm : mag x.ppm < 2 ^ 31 → ppm_of (made x) ≡ x.ppm
  unfolding level_bytes
  read_ppm b =
      ap (signed_of 32)
      (at_part 2 4 0 36 (omega (arith, n1, n2)) (omega (arith, n3))
      ∙ number_of_part (bytes_of 4 (signed_bits 32 x.ppm)) (bytes_of 4 (bits_of binary32 x.rssi) ∷ []) 0 0 4 (signed_bits 32 x.ppm) refl refl
      (signed-small 31 4 x.ppm refl b))
      ∙ signed_back 31 x.ppm b

  pub read_rssi : T (fits binary32 x.rssi) → rssi_of (made x) ≡ x.rssi
  unfolding level_bytes
  read_rssi b =
      ap (of_bits binary32)
      (at_part 2 4 4 40 (omega (arith, n1, n2)) (omega (arith, n3))
      ∙ number_of_part (bytes_of 4 (signed_bits 32 x.ppm)) (bytes_of 4 (bits_of binary32 x.rssi) ∷ []) 1 4 4 (bits_of binary32 x.rssi)
      (omega (arith, bytes-length 4 (signed_bits 32 x.ppm))) refl (pattern-small binary32 4 x.rssi refl b))
      ∙ of_bits-to_bits binary32 x.rssi b

  pub read_span_rank : (i : ℕ) → i < 4 → span_rank_of (made x) i ≡ get_or (rank_bytes x.rank0 x.rank1 x.rank2) i 0
  read_span_rank i b = byte-part (head_bytes x.head) (parts x) 3 (44 + i) i (omega (arith, n1, n2, n3)) (omega (arith, n4))

  pub read_time : T (fits binary64 x.time) → time_of (made x) ≡ x.time
  unfolding time_bytes
  read_time b =
      ap (of_bits binary64)
      (at_part 4 8 0 48 (omega (arith, n1, n2, n3, n4)) (omega (arith, n5))
      ∙ number_of_part (bytes_of 8 (bits_of binary64 x.time)) (bytes_of 8 (bits_of binary64 x.end) ∷ []) 0 0 8 (bits_of binary64 x.time) refl refl
      (pattern-small binary64 8 x.time refl b))
      ∙ of_bits-to_bits binary64 x.time b

  pub read_end : T (fits binary64 x.end) → end_of (made x) ≡ x.end
  unfolding time_bytes
  read_end b =
      ap (of_bits binary64)
      (at_part 4 8 8 56 (omega (arith, n1, n2, n3, n4)) (omega (arith, n5))
      ∙ number_of_part (bytes_of 8 (bits_of binary64 x.time)) (bytes_of 8 (bits_of binary64 x.end) ∷ []) 1 8 8 (bits_of binary64 x.end)
      (omega (arith, bytes-length 8 (bits_of binary64 x.time))) refl (pattern-small binary64 8 x.end refl b))
      ∙ of_bits-to_bits binary64 x.end b

  pub read_start : x.start < 256 ^ 8 → start_of (made x) ≡ x.start
  read_start b =
      number_of_part (head_bytes x.head) (parts x) 6 112 8 x.start (omega (arith, n1, n2, n3, n4, n5, h.spans_held)) refl b

  pub read_payload : payload_of (made x) ≡ up_to x.head.payload_len x.payload
  unfolding identity_bytes
  read_payload =
      part (head_bytes x.head) (parts x) 1 12 8 16 (omega (arith, n1)) (omega (arith, n2))
      ∙ whole_part (bytes_of 4 x.device) later 3 8 12 (omega (arith, bytes-length 4 x.device, bytes-length 2 x.counter)) length-payload

  pub read_auth : auth_of (made x) ≡ up_to x.head.auth_len x.auth
  unfolding identity_bytes
  read_auth =
      part (head_bytes x.head) (parts x) 1 5 20 28 (omega (arith, n1)) (omega (arith, n2))
      ∙ whole_part (bytes_of 4 x.device) later 4 20 5 (omega (arith, bytes-length 4 x.device, bytes-length 2 x.counter, length-payload)) length-auth

  -- a byte of the marks
  at_marks : (i : ℕ) → i < 3 → byte_at (made x) (33 + i) ≡ get_or (mark_bytes x.marks) i 0
  unfolding identity_bytes
  at_marks i b =
      byte-part (head_bytes x.head) (parts x) 1 (33 + i) (25 + i) (omega (arith, n1)) (omega (arith, n2))
      ∙ byte-part (bytes_of 4 x.device) later 5 (25 + i) i (omega (arith, bytes-length 4 x.device, bytes-length 2 x.counter, length-payload, length-auth)) (omega (arith, length-marks x.marks))

  pub read_depth : depth_of (made x) ≡ x.marks.depth
  unfolding mark_bytes
  read_depth = at_marks 0 (omega arith)

  pub read_mark : mark_of (made x) ≡ x.marks.shift
  unfolding mark_bytes
  read_mark = at_marks 1 (omega arith)

-- ---- fields at the edges of their widths are held

abbrev edge_fields : Fields
edge_fields = record {
  head = record { kind = 1; rank = 2; flags = 31; payload_len = 12; auth_len = 5; repair = 4; place = 65535 };
  device = 0xffffffff;
  counter = 65535;
  payload = spare 12;
  auth = spare 5;
  marks = record { depth = 255; shift = 255 };
  ppm = negsuc 0x7ffffffe;
  rssi = of_bits binary32 0x7f7fffff;
  rank0 = 255;
  rank1 = 255;
  rank2 = 255;
  time = of_bits binary64 0x7fefffffffffffff;
  end = nan;
  spans = spare 48;
  start = 0xffffffffffffffff;
}

edge_held : Held edge_fields
unfolding of_bits fits
edge_held = record {
  sized = record { payload_held = refl; auth_held = refl; spans_held = refl };
  place_held = lit< tt;
  device_held = lit< tt;
  counter_held = lit< tt;
  ppm_held = lit< tt;
  rssi_held = tt;
  time_held = tt;
  end_held = tt;
  start_held = lit< tt;
}
