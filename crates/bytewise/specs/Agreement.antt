-- REQUEST 06'S THEOREM: "Bytewise and bitwise decoding agree for all lists of whole bytes and every starting state, shown over the rank; a remainder under
-- eight bits goes bit by bit." Bitwise is coding's `deconvolved`, bytewise a walk by the tables' entries. Assumes nothing.
use Rattle.std.specs.Prelude.{ℕ, ◌*◌, ◌/◌, ◌≤◌, ◌<◌, ◌≡◌, Bool, List, [], ◌∷◌, ◌++◌, map, length, take, drop, get_or, Result}
use Rattle.limits.specs.Answer.{accepted, said_by}
use Rattle.limits.specs.declared.Refusal.{Refusal}
use Rattle.coding.specs.Bits.{odd, bytes_bits, to_bytes}
use Rattle.coding.specs.Convolution.{State, numbered, state_after, deconvolved}
use Rattle.conv_tables.specs.Tables.{place, decoded_table, next_table}
use Rattle.bytewise.specs.declared.ConvState.{ConvState}
use Rattle.bytewise.specs.Answers.{state_is, bytes_answer, bytes_out, rest_out}

-- the bytes that the tables give, one after the other, from the state of a number; and the number of the state after them
unfoldable pub by_tables : ℕ → ℕ → List ℕ → List ℕ
by_tables rank n [] = []
by_tables rank n (b ∷ bs) = get_or decoded_table (place rank n b) 0 ∷ by_tables rank (get_or next_table (place rank n b) 0) bs

unfoldable pub state_by_tables : ℕ → ℕ → List ℕ → ℕ
state_by_tables rank n [] = n
state_by_tables rank n (b ∷ bs) = state_by_tables rank (get_or next_table (place rank n b) 0) bs

abbrev pub Bytes : List ℕ → Type 0
Bytes bytes = (i : ℕ) → get_or bytes i 0 < 256

-- ---- THE THEOREMS, over the rank

-- as lists of bits
abbrev pub BytesAgree : Type 0
BytesAgree =
    (rank n : ℕ) (bytes : List ℕ) → 1 ≤ rank → rank ≤ 2 → n < 4 → Bytes bytes
    → bytes_bits (by_tables rank n bytes) ≡ deconvolved rank (numbered n) (bytes_bits bytes)

-- in the end state
abbrev pub StatesAgree : Type 0
StatesAgree =
    (rank n : ℕ) (bytes : List ℕ) → 1 ≤ rank → rank ≤ 2 → n < 4 → Bytes bytes
    → numbered (state_by_tables rank n bytes) ≡ state_after (numbered n) (deconvolved rank (numbered n) (bytes_bits bytes))

-- bits of any length: as many whole bytes as there are by the tables, then the remainder, under eight bits, from the state after them
abbrev pub AnyLength : Type 0
AnyLength =
    (rank n : ℕ) (l : List Bool) → 1 ≤ rank → rank ≤ 2 → n < 4
    → bytes_bits (by_tables rank n (to_bytes (length l / 8) l)) ++ deconvolved rank (numbered (state_by_tables rank n (to_bytes (length l / 8) l))) (drop (8 * (length l / 8)) l)
    ≡ deconvolved rank (numbered n) l

-- ---- the call

-- what the contract of `deconvolve_bytes` ensures of a call; proofs/Contracts.antt takes it from the contract itself
pub record Call (bytes rest : List ℕ) (rank : ℕ) (start : ConvState) (out out_rest after after_rest : List ℕ) (r : Result ConvState Refusal) : Type 0 where
  pub answered : said_by state_is r ≡ bytes_answer bytes rest rank start out out_rest
  pub left : after ≡ bytes_out bytes rest rank start out out_rest
  pub left_rest : after_rest ≡ rest_out bytes rest rank start out out_rest

-- an accepted call, at every rank: the bits of its bytes and its remainder are those that go bit by bit, and so is its end state
abbrev pub CallAgrees : Type 0
CallAgrees =
    (bytes rest : List ℕ) (rank : ℕ) (start : ConvState) (out out_rest after after_rest : List ℕ) (r : Result ConvState Refusal) (s : State)
    → Call bytes rest rank start out out_rest after after_rest r → said_by state_is r ≡ accepted s
    → (bytes_bits (take (length bytes) after) ++ map odd (take (length rest) after_rest) ≡ deconvolved rank (state_is start) (bytes_bits bytes ++ map odd rest))
    × (s ≡ state_after (state_is start) (deconvolved rank (state_is start) (bytes_bits bytes ++ map odd rest)))
