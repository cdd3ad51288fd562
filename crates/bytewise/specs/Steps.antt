-- Scaffolding. Bytes one after the other, each by its rule (conv_tables' specs/Tables.antt). No definition of 02 rests on it. Assumes nothing.
use Rattle.std.specs.Prelude.{ℕ, List, [], ◌∷◌}
use Rattle.conv_tables.specs.Tables.{decoded_byte, next_state}

unfoldable pub by_bytes : ℕ → ℕ → List ℕ → List ℕ
unfolding decoded_byte next_state
by_bytes rank n [] = []
by_bytes rank n (b ∷ bs) = decoded_byte rank n b ∷ by_bytes rank (next_state rank n b) bs

unfoldable pub state_bytes : ℕ → ℕ → List ℕ → ℕ
unfolding next_state
state_bytes rank n [] = n
state_bytes rank n (b ∷ bs) = state_bytes rank (next_state rank n b) bs
