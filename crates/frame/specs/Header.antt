-- The header of an uplink and what `uplink_header` answers (frame.rs uplink_header; 01, frame.rs and causes 2 and 9). Assumes nothing.
use Rattle.std.specs.Prelude.{ℕ, zero, suc, ◌+◌, ◌-◌, ◌*◌, ◌/◌, ◌%◌, cond, List, ◌∷◌, ◌++◌, ltb, length, drop, Option, None, Some, Bool}
use Rattle.limits.specs.Limits.{short, bad_number}
use Rattle.limits.specs.Answer.{Answer, answer, leaves}
use Rattle.coding.specs.Bits.{bit_of}
use Rattle.endian.specs.Bytes.{bytes_of}
use Rattle.frame.specs.Sizes.{header_size, most_payload, auth_size}
use Rattle.frame.specs.declared.header.UplinkFields.{UplinkFields}
use Rattle.frame.specs.declared.header.UplinkHeader.{UplinkHeader}

-- the size class of a payload of n bytes: none, 1 byte, 2 to 4, 5 to 8, 9 to 12
abbrev pub size_class : ℕ → ℕ
size_class zero = 0
size_class (suc zero) = 1
size_class (suc (suc n)) = suc n / 4 + 2

-- and its LI: how far the payload is from its class's longest
abbrev pub size_li : ℕ → ℕ
size_li zero = 0
size_li (suc zero) = 0
size_li (suc (suc n)) = 3 - suc n % 4

-- a single bit makes it class 0 and LI 2 or 3, with a payload too
abbrev pub class_of : Option Bool → ℕ → ℕ
class_of None n = size_class n
class_of (Some b) n = 0

abbrev pub li_of : Option Bool → ℕ → ℕ
li_of None n = size_li n
li_of (Some b) n = 2 + bit_of b

-- LI(2) BF(1) REP(1) MC(12), the device, the payload: REP is 0, and only the counter's low 12 bits are used
unfoldable pub header_bytes : UplinkFields → List ℕ → List ℕ
header_bytes f payload =
    (li_of f.bit (length payload) * 64 + bit_of f.downlink * 32 + f.counter / 256 % 16)
    ∷ f.counter % 256 ∷ (bytes_of 4 f.device_id ++ payload)

-- the longest header with its payload: how long `out` must be
abbrev pub most_header : ℕ
most_header = 18

-- the first cause that applies, 0 where none does: 2 `out` under 18, 9 payload over 12
unfoldable pub header_cause : List ℕ → ℕ → ℕ
header_cause payload room = cond (ltb room most_header) short (cond (ltb most_payload (length payload)) bad_number 0)

-- the values of an answer: how many bytes were written, the class and the authentication's size
unfoldable pub header_answer : UplinkFields → List ℕ → List ℕ → Answer UplinkHeader
unfolding header_cause
header_answer f payload out =
    answer (header_cause payload (length out)) (record {
      size = header_size + length payload;
      class = class_of f.bit (length payload);
      auth_size = auth_size (class_of f.bit (length payload)) (li_of f.bit (length payload));
    })

-- `out` after a call: its first places hold header and payload, the rest is kept
unfoldable pub header_out : UplinkFields → List ℕ → List ℕ → List ℕ
unfolding header_cause header_bytes
header_out f payload out =
    leaves (header_cause payload (length out)) (header_bytes f payload ++ drop (header_size + length payload) out) out
