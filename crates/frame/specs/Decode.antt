-- What bits that begin somewhere in a frame's preamble decode to (frame.rs parse_body, decode_uplink_bits). Assumes nothing.
use Rattle.std.specs.Prelude.{ℕ, zero, suc, ◌+◌, ◌*◌, Bool, false, cond, List, map, leb, ltb, length, take, drop, Option, None, Some}
use Rattle.limits.specs.Limits.{long, bad_number, most_bits}
use Rattle.limits.specs.Answer.{Answer, refused, accepted}
use Rattle.coding.specs.Bits.{odd, value, to_bytes, are_bits}
use Rattle.coding.specs.Convolution.{fresh, deconvolved}
use Rattle.frame.specs.Kinds.{sync_size, kinds, kind_of}
use Rattle.frame.specs.Sizes.{body_bytes}
use Rattle.frame.specs.Fields.{frame_from}
use Rattle.frame.specs.Repairs.{repaired, repairs, first_of}
use Rattle.frame.specs.declared.kinds.FrameKind.{FrameKind}
use Rattle.frame.specs.declared.Repair.{Repair}
use Rattle.frame.specs.declared.UplinkFrame.{UplinkFrame}

-- the frame of a kind from the bits after its type, repaired; none where these are too few (frame.rs parse_body)
unfoldable pub parse_body : FrameKind → Option Repair → List Bool → Option UplinkFrame
unfolding repaired body_bytes
parse_body kind how body =
    cond (leb (8 * body_bytes kind.class) (length (repaired how body)))
    (Some (frame_from kind how (to_bytes (body_bytes kind.class) (deconvolved kind.rank fresh (repaired how body)))))
    None

-- a frame with a right CRC
abbrev pub is_right : Option UplinkFrame → Bool
is_right None = false
is_right (Some f) = f.crc_ok

-- a body, as it is or repaired, gives such a frame
abbrev pub passes : FrameKind → List Bool → Option Repair → Bool
passes kind body how = is_right (parse_body kind how body)

abbrev pub mends : FrameKind → List Bool → Repair → Bool
mends kind body how = passes kind body (Some how)

unfoldable pub first_repair : FrameKind → List Bool → Option Repair
unfolding parse_body first_of repairs
first_repair kind body = first_of (mends kind body) (repairs (length body) 0)

-- as it is where that passes, else by the first repair that does, else as it is with a wrong CRC, or none
unfoldable pub decode_body : FrameKind → List Bool → Option UplinkFrame
unfolding first_repair
decode_body kind body = parse_body kind (cond (passes kind body None) None (first_repair kind body)) body

-- the first start
abbrev pub first_start : ℕ
first_start = 8

-- starts 8 to 22: the first preamble bits are not observable, and the leading edge can add a spurious bit
abbrev pub starts : ℕ
starts = 15

-- n starts, from one on: the first at which a frame type stands decides (frame.rs decode_uplink_bits)
abbrev pub decide_at : Option FrameKind → List Bool → Option UplinkFrame → Option UplinkFrame
decide_at None body later = later
decide_at (Some kind) body later = decode_body kind body

unfoldable pub search_from : ℕ → ℕ → List Bool → Option UplinkFrame
unfolding decode_body kind_of
search_from zero start l = None
search_from (suc n) start l =
    cond (leb (start + sync_size) (length l))
    (decide_at (kind_of (value (take sync_size (drop start l))) kinds) (drop (start + sync_size) l) (search_from n (suc start) l))
    None

unfoldable pub decode_uplink : List Bool → Option UplinkFrame
unfolding search_from
decode_uplink l = search_from starts first_start l

-- of bit bytes, with the causes 3 and 9
unfoldable pub uplink_answer : List ℕ → Answer (Option UplinkFrame)
unfolding decode_uplink
uplink_answer bits = cond (ltb most_bits (length bits)) (refused long) (cond (are_bits bits) (accepted (decode_uplink (map odd bits))) (refused bad_number))
