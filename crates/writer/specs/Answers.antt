-- What `write_uplink` answers and leaves in `out` (02, request 01; causes 2 and 10). Assumes nothing.
use Rattle.std.specs.Prelude.{ℕ, ◌*◌, Bool, false, not, cond, List, map, ltb, eqb, length, Option, None, Some}
use Rattle.std.proofs.lemmas.List.Edits.{sets}
use Rattle.limits.specs.Limits.{short, bad_uplink}
use Rattle.coding.specs.Bits.{bit_of}
use Rattle.frame.specs.Sizes.{most_payload, auth_size}
use Rattle.frame.specs.Header.{li_of}
use Rattle.frame.specs.declared.header.UplinkFields.{UplinkFields}
use Rattle.writer.specs.Uplink.{class_sent}

-- 'each repetition, by rank, has 212 places'; 'a slice under 636 bytes is refusal 2'
abbrev pub places : ℕ
places = 212

abbrev pub all_places : ℕ
all_places = 636

-- 'a counter over 4,095'
abbrev pub highest_counter : ℕ
highest_counter = 4095

-- 'a single bit together with a payload'
abbrev pub bit_and_payload : Option Bool → ℕ → Bool
bit_and_payload None n = false
bit_and_payload (Some b) n = not (eqb n 0)

-- the 'auth length that the header' calls for: by class and LI, as the decoder reads them
abbrev pub auth_called : UplinkFields → List ℕ → ℕ
auth_called f payload = auth_size (class_sent f payload) (li_of f.bit (length payload))

-- the first cause that applies, 0 where none does
unfoldable pub write_cause : UplinkFields → List ℕ → List ℕ → ℕ → ℕ
write_cause f payload auth room =
    cond (ltb room all_places) short
    (cond (ltb most_payload (length payload)) bad_uplink
    (cond (bit_and_payload f.bit (length payload)) bad_uplink
    (cond (ltb highest_counter f.counter) bad_uplink
    (cond (eqb (length auth) (auth_called f payload)) 0 bad_uplink))))

-- the repetition of a rank at its places, 'a byte 0 or 1 a bit'; every other place is kept
abbrev pub put_rank : (ℕ → List Bool) → ℕ → List ℕ → List ℕ
put_rank bits rank out = sets out (places * rank) (map bit_of (bits rank))

-- 'all three repetitions'
unfoldable pub put_all : (ℕ → List Bool) → List ℕ → List ℕ
put_all bits out = put_rank bits 2 (put_rank bits 1 (put_rank bits 0 out))
