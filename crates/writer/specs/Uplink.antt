-- The bits of an uplink's repetitions (02, request 01; frame.rs encode_uplink), and the frame that they carry. Assumes nothing.
use Rattle.std.specs.Prelude.{ℕ, ◌+◌, ◌*◌, ◌/◌, ◌%◌, Bool, true, false, List, [], ◌∷◌, ◌++◌, length, None}
use Rattle.coding.specs.Bits.{bytes_bits}
use Rattle.coding.specs.Crc.{crc_of}
use Rattle.coding.specs.Convolution.{fresh, convolved}
use Rattle.frame.specs.Kinds.{alternating, sync_size, sync_bits, plain}
use Rattle.frame.specs.Sizes.{most_payload, most_auth, body_bytes}
use Rattle.frame.specs.Fields.{padded}
use Rattle.frame.specs.Header.{class_of, header_bytes}
use Rattle.frame.specs.declared.kinds.FrameKind.{FrameKind}
use Rattle.frame.specs.declared.header.UplinkFields.{UplinkFields}
use Rattle.frame.specs.declared.UplinkFrame.{UplinkFrame}

-- 02: '20 alternating preamble bits from true'
abbrev pub lead_size : ℕ
lead_size = 20

unfoldable pub lead : List Bool
unfolding alternating
lead = alternating lead_size true

-- a repetition of a frame of any kind: the preamble, 'frame.rs's frame type', and the body's bits, 'convolved for ranks 1 and 2' (rank 0 has them as they are)
unfoldable pub repetition_of : FrameKind → List Bool → List Bool
unfolding lead sync_bits convolved
repetition_of kind body = lead ++ (sync_bits kind ++ convolved kind.rank fresh body)

-- a body of a size class as a rank repeats it
abbrev pub repeated : ℕ → List Bool → ℕ → List Bool
repeated class body rank = repetition_of (plain rank class) body

-- 'the body with CRC', high byte first (frame.rs push_bits of 16 bits)
unfoldable pub with_crc : List ℕ → List ℕ
with_crc bytes = bytes ++ (crc_of bytes / 256 ∷ crc_of bytes % 256 ∷ [])

-- an uplink's bytes: header and payload, authentication, CRC
unfoldable pub frame_bytes : UplinkFields → List ℕ → List ℕ → List ℕ
unfolding with_crc header_bytes
frame_bytes f payload auth = with_crc (header_bytes f payload ++ auth)

-- the size class by frame.rs uplink_header
abbrev pub class_sent : UplinkFields → List ℕ → ℕ
class_sent f payload = class_of f.bit (length payload)

-- an uplink's repetition of a rank
unfoldable pub uplink_bits : UplinkFields → List ℕ → List ℕ → ℕ → List Bool
unfolding repetition_of frame_bytes bytes_bits
uplink_bits f payload auth rank = repeated (class_sent f payload) (bytes_bits (frame_bytes f payload auth)) rank

-- how many bits that is, of whatever rank
unfoldable pub bit_count : UplinkFields → List ℕ → ℕ
bit_count f payload = lead_size + sync_size + 8 * body_bytes (class_sent f payload)

-- the decoder's frame of what was sent: every field of its answer, the CRC right, nothing repaired
abbrev pub sent_frame : UplinkFields → List ℕ → List ℕ → ℕ → UplinkFrame
sent_frame f payload auth rank = record {
  rank = rank;
  device_id = f.device_id;
  counter = f.counter;
  payload = padded most_payload payload;
  payload_len = length payload;
  bit = f.bit;
  downlink = f.downlink;
  control = false;
  auth = padded most_auth auth;
  auth_len = length auth;
  crc_ok = true;
  repaired = None;
}
