-- What `convolve` and `deconvolve` answer and leave in `out` (01, 'Causes and returns'). Assumes nothing.
use Rattle.std.specs.Prelude.{ℕ, cond, List, ◌++◌, map, ltb, length, drop}
use Rattle.limits.specs.Limits.{short, long, bad_number, most_bits}
use Rattle.limits.specs.Answer.{Answer, answer, leaves}
use Rattle.coding.specs.Bits.{odd, bit_of, are_bits}
use Rattle.coding.specs.Convolution.{fresh, convolved, deconvolved}

-- the highest rank: a message is sent at most three times
abbrev pub highest_rank : ℕ
highest_rank = 2

-- the first cause that applies, 0 where none does: 2 `out` under the input's length, 3 over 1,024 bits, 9 rank over 2 or a bit byte over 1
unfoldable pub coding_cause : List ℕ → ℕ → ℕ → ℕ
unfolding are_bits
coding_cause bits rank room =
    cond (ltb room (length bits)) short (cond (ltb most_bits (length bits)) long (cond (ltb highest_rank rank) bad_number (cond (are_bits bits) 0 bad_number)))

-- the answer of `convolve` and `deconvolve`: how many bits were written
unfoldable pub coding_answer : List ℕ → ℕ → List ℕ → Answer ℕ
unfolding coding_cause
coding_answer bits rank out = answer (coding_cause bits rank (length out)) (length bits)

-- `out` after a call: its first places hold the result, the rest is kept
unfoldable pub convolve_out : List ℕ → ℕ → List ℕ → List ℕ
unfolding coding_cause convolved
convolve_out bits rank out =
    leaves (coding_cause bits rank (length out)) (map bit_of (convolved rank fresh (map odd bits)) ++ drop (length bits) out) out

unfoldable pub deconvolve_out : List ℕ → ℕ → List ℕ → List ℕ
unfolding coding_cause deconvolved
deconvolve_out bits rank out =
    leaves (coding_cause bits rank (length out)) (map bit_of (deconvolved rank fresh (map odd bits)) ++ drop (length bits) out) out
