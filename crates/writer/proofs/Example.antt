-- One uplink computed: device 00c0ffee, counter 291, no payload, authentication aa 55. Its three repetitions are the Rust's bits behind 20 preamble bits, and the decoder reads them back. Assumes nothing.
use Rattle.std.proofs.Common.{None, Some}
use Prim.Native.Nat.{ℕ}
use mathlib.Core.Path.{◌≡◌, refl}
use mathlib.Core.Bool.{false}
use mathlib.Core.List.{List, [], ◌∷◌}
use Rattle.endian.specs.Bytes.{bytes_of, number_of, number_at}
use Rattle.coding.specs.Bits.{digits, value, bytes_bits, to_bytes}
use Rattle.coding.specs.Crc.{onto, divisor, remainder, crc_remainder, crc_bits, crc_of}
use Rattle.coding.specs.Convolution.{convolved, deconvolved}
use Rattle.frame.specs.Kinds.{alternating, preamble, sync_bits, kind_of}
use Rattle.frame.specs.Sizes.{payload_size, auth_size, body_bytes}
use Rattle.frame.specs.Fields.{bit_from, crc_right, frame_from}
use Rattle.frame.specs.Header.{header_bytes}
use Rattle.frame.specs.Repairs.{repaired}
use Rattle.frame.specs.Decode.{parse_body, decode_body, search_from, decode_uplink}
use Rattle.frame.specs.declared.header.UplinkFields.{UplinkFields}
use Rattle.writer.specs.Uplink.{lead, repetition_of, with_crc, frame_bytes, uplink_bits, sent_frame}

abbrev pub fields : UplinkFields
fields = record { device_id = 0x00c0ffee; counter = 291; bit = None; downlink = false }

abbrev pub auth : List ℕ
auth = 0xaa ∷ 0x55 ∷ []

pub sent : (uplink_bits fields [] auth 0 ≡ digits 116 0xaaaaaa06b0123eeffc000aa55142d)
    × (uplink_bits fields [] auth 1 ≡ digits 116 0xaaaaaa6e001fae23fd000d5eadb30)
    × (uplink_bits fields [] auth 2 ≡ digits 116 0xaaaaaa034016b1540300080c05126)
unfolding uplink_bits repetition_of lead alternating sync_bits preamble digits value convolved frame_bytes with_crc header_bytes bytes_of bytes_bits crc_of crc_bits crc_remainder remainder onto divisor
sent = (refl, refl, refl)

pub read_back : (decode_uplink (digits 116 0xaaaaaa06b0123eeffc000aa55142d) ≡ Some (sent_frame fields [] auth 0))
    × (decode_uplink (digits 116 0xaaaaaa6e001fae23fd000d5eadb30) ≡ Some (sent_frame fields [] auth 1))
    × (decode_uplink (digits 116 0xaaaaaa034016b1540300080c05126) ≡ Some (sent_frame fields [] auth 2))
unfolding decode_uplink search_from kind_of decode_body parse_body repaired frame_from to_bytes deconvolved bit_from crc_right payload_size auth_size body_bytes number_at number_of sync_bits preamble alternating digits value bytes_bits crc_of crc_bits crc_remainder remainder onto divisor
read_back = (refl, refl, refl)
