-- Frame types. A frame begins with 19 alternating bits, the preamble, and the 13 bits of its type, which says the repetition's rank, the payload's size class
-- and whether it is a control frame (Sigfox radio specifications, uplink frame; frame.rs FRAME_TYPES, CONTROL_FRAME_TYPES). Assumes nothing.
use Rattle.std.specs.Prelude.{ℕ, zero, suc, ◌+◌, ◌-◌, Bool, true, false, not, cond, List, [], ◌∷◌, ◌++◌, eqb, drop, Option, None, Some}
use Rattle.coding.specs.Bits.{digits, value}
use Rattle.frame.specs.declared.kinds.FrameKind.{FrameKind}

-- n alternating bits, from b
unfoldable pub alternating : ℕ → Bool → List Bool
alternating zero b = []
alternating (suc n) b = b ∷ alternating n (not b)

abbrev pub preamble_size : ℕ
preamble_size = 19

abbrev pub type_size : ℕ
type_size = 13

unfoldable pub preamble : List Bool
preamble = alternating preamble_size true

-- of three numbers that of a rank
abbrev pub ranked : ℕ → ℕ → ℕ → ℕ → ℕ
ranked a b c zero = a
ranked a b c (suc zero) = b
ranked a b c (suc (suc r)) = c

-- the 13 bits of a data frame by size class (no byte or a bit; 1 byte; 2 to 4; 5 to 8; 9 to 12 bytes) and rank
abbrev pub data_type : ℕ → ℕ → ℕ
data_type zero = ranked 0x06b 0x6e0 0x034
data_type (suc zero) = ranked 0x08d 0x0d2 0x302
data_type (suc (suc zero)) = ranked 0x35f 0x598 0x5a3
data_type (suc (suc (suc zero))) = ranked 0x611 0x6bf 0x72c
data_type (suc (suc (suc (suc c)))) = ranked 0x94c 0x971 0x997

-- of a control frame (keep-alive, downlink confirmation), which is laid out like class 3
abbrev pub control_type : ℕ → ℕ
control_type = ranked 0xf67 0xfc9 0x11be

abbrev pub control_class : ℕ
control_class = 3

abbrev pub type_of : FrameKind → ℕ
type_of k = cond k.control (control_type k.rank) (data_type k.class k.rank)

-- the Rust looks for 16 bits: the preamble's last three and the type
abbrev pub sync_size : ℕ
sync_size = 16

unfoldable pub sync_bits : FrameKind → List Bool
unfolding preamble
sync_bits k = drop (preamble_size + type_size - sync_size) preamble ++ digits type_size (type_of k)

-- all kinds, in the Rust's order: of each rank the control frame, then the size classes
abbrev pub control : ℕ → FrameKind
control r = record { rank = r; class = control_class; control = true }

abbrev pub plain : ℕ → ℕ → FrameKind
plain r c = record { rank = r; class = c; control = false }

abbrev pub kinds_of : ℕ → List FrameKind
kinds_of r = control r ∷ plain r 0 ∷ plain r 1 ∷ plain r 2 ∷ plain r 3 ∷ plain r 4 ∷ []

abbrev pub kinds : List FrameKind
kinds = kinds_of 0 ++ (kinds_of 1 ++ kinds_of 2)

abbrev pub blank_kind : FrameKind
blank_kind = plain 0 0

-- the first kind whose 16 bits stand for a number
unfoldable pub kind_of : ℕ → List FrameKind → Option FrameKind
unfolding sync_bits
kind_of ft [] = None
kind_of ft (k ∷ ks) = cond (eqb (value (sync_bits k)) ft) (Some k) (kind_of ft ks)
