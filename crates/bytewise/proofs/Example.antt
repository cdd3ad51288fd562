-- Instances of the theorem and of the contract, computed. Assumes nothing.
use mathlib.Core.Path.{◌≡◌, refl}
use mathlib.Core.Bool.{false}
use mathlib.Core.List.{List, [], ◌∷◌}
use Prim.Native.Nat.{ℕ}
use Rattle.limits.specs.Answer.{refused, accepted, answer, leaves}
use Rattle.coding.specs.Bits.{digits, value, bytes_bits, to_bytes, are_bits}
use Rattle.coding.specs.Convolution.{numbered, state_after, deconvolved}
use Rattle.conv_tables.specs.Tables.{decoded_byte, next_state, tabulated, decoded_table, next_table}
use Rattle.bytewise.specs.Answers.{bytes_cause, undone, bytes_answer, bytes_out, rest_out}
use Rattle.bytewise.specs.Agreement.{by_tables, state_by_tables}
use Rattle.bytewise.specs.declared.ConvState.{ConvState}

-- ---- two bytes at rank 2 from the state 3: by the tables, whose entries are read, and bit by bit

by_tables_lem : by_tables 2 3 (0xa5 ∷ 0x5a ∷ []) ≡ 0x7b ∷ 0xb7 ∷ []
unfolding by_tables decoded_table next_table tabulated decoded_byte next_state deconvolved state_after digits value
by_tables_lem = refl

state_by_tables_lem : state_by_tables 2 3 (0xa5 ∷ 0x5a ∷ []) ≡ 3
unfolding state_by_tables next_table tabulated next_state deconvolved state_after digits
state_by_tables_lem = refl

bit_by_bit : deconvolved 2 (numbered 3) (bytes_bits (0xa5 ∷ 0x5a ∷ [])) ≡ bytes_bits (0x7b ∷ 0xb7 ∷ [])
unfolding deconvolved bytes_bits digits
bit_by_bit = refl

-- another rank is another answer, and so is another state
other_rank : by_tables 1 3 (0xa5 ∷ 0x5a ∷ []) ≡ 0x87 ∷ 0x15 ∷ []
unfolding by_tables decoded_table next_table tabulated decoded_byte next_state deconvolved state_after digits value
other_rank = refl

other_state : by_tables 2 0 (0xa5 ∷ 0x5a ∷ []) ≡ 0x84 ∷ 0x48 ∷ []
unfolding by_tables decoded_table next_table tabulated decoded_byte next_state deconvolved state_after digits value
other_state = refl

-- ---- a call at rank 1 from zeros: a byte and a remainder of three bits, slices with a place more

abbrev zeros : ConvState
zeros = record { last = false; second = false }

abbrev bits : ℕ → List ℕ
bits last = 1 ∷ 0 ∷ last ∷ []

abbrev out : List ℕ
out = 7 ∷ 7 ∷ []

abbrev out_rest : List ℕ
out_rest = 9 ∷ 9 ∷ 9 ∷ 9 ∷ []

answers : bytes_answer (0x80 ∷ []) (bits 1) 1 zeros out out_rest ≡ accepted (record { last = false; second = false })
unfolding bytes_answer bytes_cause answer undone deconvolved state_after bytes_bits digits are_bits
answers = refl

leaves-bytes : bytes_out (0x80 ∷ []) (bits 1) 1 zeros out out_rest ≡ 0xdb ∷ 7 ∷ []
unfolding bytes_out bytes_cause leaves undone deconvolved bytes_bits digits value to_bytes are_bits
leaves-bytes = refl

leaves-bits : rest_out (0x80 ∷ []) (bits 1) 1 zeros out out_rest ≡ 1 ∷ 0 ∷ 0 ∷ 9 ∷ []
unfolding rest_out bytes_cause leaves undone deconvolved bytes_bits digits are_bits
leaves-bits = refl

-- a bit byte over 1 is refused, and nothing is changed; at rank 0 the byte is copied
refuses : bytes_answer (0x80 ∷ []) (bits 2) 1 zeros out out_rest ≡ refused 9
unfolding bytes_answer bytes_cause answer undone are_bits
refuses = refl

keeps : bytes_out (0x80 ∷ []) (bits 2) 1 zeros out out_rest ≡ out
unfolding bytes_out bytes_cause leaves undone are_bits
keeps = refl

copies : bytes_out (0xc3 ∷ []) (bits 1) 0 zeros out out_rest ≡ 0xc3 ∷ 7 ∷ []
unfolding bytes_out bytes_cause leaves undone deconvolved bytes_bits digits value to_bytes are_bits
copies = refl
