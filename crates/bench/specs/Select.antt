-- What the benchmark's selections answer: order's, or 0 where the index is past the list or a NaN is in it.
use Rattle.std.specs.Prelude.{ℕ, Bool, true, cond, ◌&&◌, List, [], ◌∷◌, leb, length, Float}
use Rattle.std.specs.Float.{Format}
use Rattle.std.specs.Float.Ieee.{eq, of_bits}
use Rattle.order.specs.Order.{kth}

-- each element is equal to itself
unfoldable pub selfsame : {A : Type 0} → (A → A → Bool) → List A → Bool
selfsame same [] = true
selfsame same (x ∷ l) = same x x && selfsame same l

-- no element is a NaN, which alone is not equal to itself
unfoldable pub numbers : List Float → Bool
numbers [] = true
numbers (x ∷ l) = eq x x && numbers l

abbrev pub selected : Format → List Float → ℕ → Float
selected f l k = cond (leb (length l) k) (of_bits f 0) (cond (numbers l) (kth f l k) (of_bits f 0))
