-- Lists of numbers in the input: so many bytes each, least significant first. Assumes nothing.
use Rattle.std.specs.Prelude.{ℕ, zero, suc, ◌+◌, List, [], ◌∷◌}
use Rattle.endian.specs.Bytes.{number_at}

-- n of them, from a byte on, each as its pattern of `size` bytes says
unfoldable pub numbers_from : {A : Type 0} → ℕ → (ℕ → A) → ℕ → ℕ → List ℕ → List A
numbers_from size of zero at bytes = []
numbers_from size of (suc n) at bytes = of (number_at size bytes at) ∷ numbers_from size of n (at + size) bytes
