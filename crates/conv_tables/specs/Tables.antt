-- The tables of request 06: "a table for ranks 1 and 2, four states and 256 input bytes: decoded byte and next state, 2,048 entries each". Assumes nothing.
use Rattle.std.specs.Prelude.{ℕ, zero, suc, ◌+◌, ◌-◌, ◌*◌, ◌/◌, ◌%◌, Bool, List, [], ◌∷◌}
use Rattle.coding.specs.Bits.{digits, value}
use Rattle.coding.specs.Convolution.{state_number, numbered, state_after, deconvolved}

-- the rule of an entry, bit by bit: the inputs of which a byte's bits, the highest first, are the product from a state on
abbrev pub inputs : ℕ → ℕ → ℕ → List Bool
inputs rank n b = deconvolved rank (numbered n) (digits 8 b)

unfoldable pub decoded_byte : ℕ → ℕ → ℕ → ℕ
unfolding deconvolved digits value
decoded_byte rank n b = value (inputs rank n b)

unfoldable pub next_state : ℕ → ℕ → ℕ → ℕ
unfolding deconvolved digits state_after
next_state rank n b = state_number (state_after (numbered n) (inputs rank n b))

-- the places of a state: 256 bytes; of a rank: four states; of a table: two ranks
abbrev pub state_places : ℕ
state_places = 256

abbrev pub rank_places : ℕ
rank_places = 1024

abbrev pub entries : ℕ
entries = 2048

-- the place of a rank, state and byte, and back
abbrev pub place : ℕ → ℕ → ℕ → ℕ
place rank n b = rank_places * (rank - 1) + state_places * n + b

abbrev pub at_place : (ℕ → ℕ → ℕ → ℕ) → ℕ → ℕ
at_place f k = f (k / rank_places + 1) (k / state_places % 4) (k % state_places)

-- n values from i on
unfoldable pub tabulated : (ℕ → ℕ) → ℕ → ℕ → List ℕ
tabulated f i zero = []
tabulated f i (suc n) = f i ∷ tabulated f (suc i) n

unfoldable pub decoded_table : List ℕ
unfolding tabulated
decoded_table = tabulated (at_place decoded_byte) 0 entries

unfoldable pub next_table : List ℕ
unfolding tabulated
next_table = tabulated (at_place next_state) 0 entries
