-- Where the frame type stands that decides (frame.rs decode_uplink_bits): the search of frame's `search_from`, which says where it ended. Assumes nothing.
use Rattle.std.specs.Prelude.{◌≡◌, ℕ, zero, suc, ◌+◌, Bool, cond, List, length, take, drop, nat_le, Option, None, Some}
use Rattle.coding.specs.Bits.{value}
use Rattle.frame.specs.Kinds.{sync_size, kinds, kind_of}
use Rattle.frame.specs.Decode.{decode_body, first_start, starts, decode_uplink}
use Rattle.frame.specs.declared.UplinkFrame.{UplinkFrame}
use Rattle.frame.specs.declared.kinds.FrameKind.{FrameKind}
use Rattle.frame.specs.declared.TypeFound.{TypeFound}

abbrev pub type_at : ℕ → Option FrameKind → Option TypeFound → Option TypeFound
type_at start None later = later
type_at start (Some kind) later = Some (record { start = start; kind = kind })

-- n starts, from one on: the first at which a frame type stands
unfoldable pub type_from : ℕ → ℕ → List Bool → Option TypeFound
unfolding kind_of
type_from zero start l = None
type_from (suc n) start l =
    cond (nat_le (start + sync_size) (length l))
    (type_at start (kind_of (value (take sync_size (drop start l))) kinds) (type_from n (suc start) l))
    None

unfoldable pub type_in : List Bool → Option TypeFound
unfolding type_from
type_in l = type_from starts first_start l

-- what is decoded from a type that was found
unfoldable pub decoded_from : List Bool → Option TypeFound → Option UplinkFrame
decoded_from l None = None
decoded_from l (Some t) = decode_body t.kind (drop (t.start + sync_size) l)

-- the type that is found is the one that the decoder decodes by
abbrev pub DecodedThere : Type 0
DecodedThere = (l : List Bool) → decoded_from l (type_in l) ≡ decode_uplink l
