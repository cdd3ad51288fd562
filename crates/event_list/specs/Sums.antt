-- Choosing, counting and adding up over a list: what a report says of its messages. Assumes nothing.
use Rattle.std.specs.Prelude.{ℕ, ◌+◌, Bool, cond, List, [], ◌∷◌, ℤ, pos, ◌+ℤ◌}

module _ {A : Type 0} where
  -- the elements that pass a test, in their order
  unfoldable pub those : (A → Bool) → List A → List A
  those p [] = []
  those p (x ∷ l) = cond (p x) (x ∷ those p l) (those p l)

  -- how many pass it
  unfoldable pub count : (A → Bool) → List A → ℕ
  count p [] = 0
  count p (x ∷ l) = cond (p x) 1 0 + count p l

  -- the sum of a number of each
  unfoldable pub sum_of : (A → ℤ) → List A → ℤ
  sum_of f [] = pos 0
  sum_of f (x ∷ l) = f x +ℤ sum_of f l
