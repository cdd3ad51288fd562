-- Scaffolding. Marks of records, a bit each: how the messages on air are kept until the whole list was read. Assumes nothing.
use Rattle.std.specs.Prelude.{ℕ, zero, suc, ◌/◌, ◌%◌, ◌^◌, ◌≡◌, Bool, false, cond, List, [], ◌∷◌, ◌++◌, get_or, set}
use Rattle.std.specs.Int.Bits.{bit_or}
use Rattle.coding.specs.Bits.{odd}

-- whether record number i is marked: its bit, eight to a byte, the lowest first
abbrev pub mark_at : List ℕ → ℕ → Bool
mark_at marks i = odd (get_or marks (i / 8) 0 / 2 ^ (i % 8))

abbrev pub with_mark : List ℕ → ℕ → List ℕ
with_mark marks i = set marks (i / 8) (bit_or (get_or marks (i / 8) 0) (2 ^ (i % 8)))

abbrev pub Unmarked : List ℕ → Type 0
Unmarked marks = (i : ℕ) → mark_at marks i ≡ false

abbrev pub number_if : Bool → ℕ → List ℕ
number_if marked i = cond marked (i ∷ []) []

-- the marked ones of the first n record numbers, rising
unfoldable pub marked_of : ℕ → List ℕ → List ℕ
marked_of zero marks = []
marked_of (suc n) marks = marked_of n marks ++ number_if (mark_at marks n) n
