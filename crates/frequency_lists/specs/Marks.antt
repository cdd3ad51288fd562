-- `retain` and `filter` on parallel lists: a mark for each element says whether it is taken. Assumes nothing.
use Rattle.std.specs.Prelude.{ℕ, suc, Bool, true, false, ◌&&◌, List, [], ◌∷◌, ◌++◌, drop, slice_set}

-- how many marks are set
unfoldable pub marked : List Bool → ℕ
marked [] = 0
marked (true ∷ bs) = suc (marked bs)
marked (false ∷ bs) = marked bs

module _ {A : Type 0} where
  -- the marked elements, in order
  unfoldable pub retained : List Bool → List A → List A
  retained [] l = []
  retained (b ∷ bs) [] = []
  retained (true ∷ bs) (x ∷ l) = x ∷ retained bs l
  retained (false ∷ bs) (x ∷ l) = retained bs l

  -- the marked elements of l, over the front of s; what lies behind them stays. `gathered bs l l` is retention in place
  unfoldable pub gathered : List Bool → List A → List A → List A
  unfolding retained
  gathered bs l s = retained bs l ++ drop (marked bs) s

  -- x at the place w of s, if it is marked
  abbrev pub put : Bool → List A → ℕ → A → List A
  put true s w x = slice_set s w x
  put false s w x = s
