-- What `deconvolve_bytes` answers and leaves in `out` and `out_rest` (02, request 06; 01, 'Causes and returns'): what undoing the code bit by bit gives. Assumes nothing.
use Rattle.std.specs.Prelude.{ℕ, ◌+◌, ◌*◌, Bool, cond, List, ◌++◌, map, ltb}
use Rattle.std.proofs.Math.ListN.{length, drop}
use Rattle.limits.specs.Limits.{short, long, bad_number, most_bits}
use Rattle.limits.specs.Answer.{Answer, answer, leaves}
use Rattle.coding.specs.Bits.{odd, bit_of, bytes_bits, to_bytes, are_bits}
use Rattle.coding.specs.Convolution.{State, state_after, deconvolved}
use Rattle.coding.specs.Answers.{highest_rank}
use Rattle.bytewise.specs.declared.ConvState.{ConvState}

-- the state of a code that a struct says: any of the four, so that none is refused
abbrev pub state_is : ConvState → State
state_is s = record { last = s.last; second = s.second }

-- how many bits are handed in: "a remainder counts its bits"
abbrev pub bit_count : List ℕ → List ℕ → ℕ
bit_count bytes rest = 8 * length bytes + length rest

-- the first cause that applies, 0 where none does: 2 a lent slice under its input's length, 3 over 1,024 bits, 9 rank over 2 or a bit byte over 1
unfoldable pub bytes_cause : List ℕ → List ℕ → ℕ → ℕ → ℕ → ℕ
unfolding are_bits
bytes_cause bytes rest rank room rest_room =
    cond (ltb room (length bytes)) short
    (cond (ltb rest_room (length rest)) short
    (cond (ltb most_bits (bit_count bytes rest)) long (cond (ltb highest_rank rank) bad_number (cond (are_bits rest) 0 bad_number))))

-- the bits that are handed in: the bytes', each byte's highest first, then the remainder
abbrev pub handed : List ℕ → List ℕ → List Bool
handed bytes rest = bytes_bits bytes ++ map odd rest

-- bit by bit: the inputs of which they are the product, from a state on
unfoldable pub undone : List ℕ → List ℕ → ℕ → State → List Bool
unfolding deconvolved bytes_bits
undone bytes rest rank s = deconvolved rank s (handed bytes rest)

module _ (bytes rest : List ℕ) (rank : ℕ) (start : ConvState) (out out_rest : List ℕ) where
  abbrev cause : ℕ
  cause = bytes_cause bytes rest rank (length out) (length out_rest)

  abbrev plain : List Bool
  plain = undone bytes rest rank (state_is start)

  unfoldable pub bytes_answer : Answer State
  unfolding bytes_cause undone state_after
  bytes_answer = answer cause (state_after (state_is start) plain)

  -- `out` after a call: its first places hold the decoded bytes, the rest is kept
  unfoldable pub bytes_out : List ℕ
  unfolding bytes_cause undone to_bytes
  bytes_out = leaves cause (to_bytes (length bytes) plain ++ drop (length bytes) out) out

  -- `out_rest`: the decoded bits after them
  unfoldable pub rest_out : List ℕ
  unfolding bytes_cause undone
  rest_out = leaves cause (map bit_of (drop (8 * length bytes) plain) ++ drop (length rest) out_rest) out_rest
