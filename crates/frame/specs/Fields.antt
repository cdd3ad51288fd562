-- The fields of a frame's body: LI(2) BF(1) REP(1) MC(12) | device (4, least significant byte first) | payload | authentication | CRC (2, high byte first)
-- (sigfox-ep-lib; frame.rs parse_body). Assumes nothing.
use Rattle.std.specs.Prelude.{ℕ, ◌+◌, ◌-◌, ◌*◌, ◌/◌, ◌%◌, Bool, cond, ◌&&◌, List, ◌++◌, eqb, leb, length, take, drop, get_or, replicate, Option, None, Some}
use Rattle.endian.specs.Bytes.{number_at}
use Rattle.coding.specs.Bits.{odd}
use Rattle.coding.specs.Crc.{crc_of}
use Rattle.frame.specs.Sizes.{header_size, crc_size, most_payload, most_auth, payload_size, auth_size, body_bytes}
use Rattle.frame.specs.declared.kinds.FrameKind.{FrameKind}
use Rattle.frame.specs.declared.Repair.{Repair}
use Rattle.frame.specs.declared.UplinkFrame.{UplinkFrame}

abbrev pub byte_at : List ℕ → ℕ → ℕ
byte_at bytes i = get_or bytes i 0

-- LI: the top two bits of the first byte
abbrev pub li : List ℕ → ℕ
li bytes = byte_at bytes 0 / 64

-- BF, then: the device waits for a downlink
abbrev pub bf : List ℕ → Bool
bf bytes = odd (byte_at bytes 0 / 32)

-- REP: nobody reads it
abbrev pub rep : List ℕ → Bool
rep bytes = odd (byte_at bytes 0 / 16)

-- MC: the message counter's 12 bits
abbrev pub counter_of : List ℕ → ℕ
counter_of bytes = byte_at bytes 0 % 16 * 256 + byte_at bytes 1

-- the device, least significant byte first
abbrev pub device_of : List ℕ → ℕ
device_of bytes = number_at 4 bytes 2

-- n bytes after the header, and m after those
abbrev pub payload_of : ℕ → List ℕ → List ℕ
payload_of n bytes = take n (drop header_size bytes)

abbrev pub auth_of : ℕ → ℕ → List ℕ → List ℕ
auth_of n m bytes = take m (drop (header_size + n) bytes)

-- the single bit of a message without payload: LI 2 is false, LI 3 true (frame.rs 'class == 0 && li >= 2')
unfoldable pub bit_from : ℕ → ℕ → Option Bool
bit_from class l = cond (eqb class 0 && leb 2 l) (Some (eqb l 3)) None

-- of a body of n bytes, the last two are the CRC of those before
unfoldable pub crc_right : ℕ → List ℕ → Bool
crc_right n bytes = eqb (crc_of (take (n - crc_size) bytes)) (byte_at bytes (n - 2) * 256 + byte_at bytes (n - 1))

-- a list in an array of n places: 0 past its end
abbrev pub padded : ℕ → List ℕ → List ℕ
padded n l = l ++ replicate (n - length l) 0

-- the frame of a kind from its body's bytes
unfoldable pub frame_from : FrameKind → Option Repair → List ℕ → UplinkFrame
unfolding payload_size auth_size body_bytes bit_from crc_right
frame_from kind how bytes = record {
  rank = kind.rank;
  device_id = device_of bytes;
  counter = counter_of bytes;
  payload = padded most_payload (payload_of (payload_size kind.class (li bytes)) bytes);
  payload_len = payload_size kind.class (li bytes);
  bit = bit_from kind.class (li bytes);
  downlink = bf bytes;
  control = kind.control;
  auth = padded most_auth (auth_of (payload_size kind.class (li bytes)) (auth_size kind.class (li bytes)) bytes);
  auth_len = auth_size kind.class (li bytes);
  crc_ok = crc_right (body_bytes kind.class) bytes;
  repaired = how;
}
