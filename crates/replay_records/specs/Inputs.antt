-- What a case of the input says of an uplink (docs/REPLAY.md). Assumes nothing.
use Rattle.std.specs.Prelude.{ℕ, not, cond, List, eqb, get_or, Option, None, Some, Bool}
use Rattle.endian.specs.Bytes.{number_at}
use Rattle.frame.specs.declared.header.UplinkFields.{UplinkFields}

-- a single bit: 0 for none, 1 for false, 2 for true
abbrev pub bit_from : ℕ → Option Bool
bit_from n = cond (eqb n 0) None (Some (eqb n 2))

-- u32 device, u16 counter, u8 bit, u8 downlink
abbrev pub fields_from : List ℕ → UplinkFields
fields_from l = record {
  device_id = number_at 4 l 0;
  counter = number_at 2 l 4;
  bit = bit_from (get_or l 6 0);
  downlink = not (eqb (get_or l 7 0) 0);
}
