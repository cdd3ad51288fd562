-- The sample buffer of a receiver and how many of its places are held, through a push's fillings: "sample places not written keep their contents".
-- The ledger has the held samples alone. Assumes nothing.
use Rattle.std.specs.Prelude.{List, [], ◌∷◌, ◌++◌, cond, ℕ, zero, suc, ◌+◌, ◌-◌, min, length, take, drop, eqb, Float}
use Rattle.std.proofs.Math.Seq.{paste}
use Rattle.ledger.specs.Ledger.{capacity, half}

pub record Buffer : Type 0 where
  pub held : ℕ
  pub places : List Float

-- receiver.rs `push`, "keep the newest half": a full buffer's newer half moves to its start, and the other places keep what they have
unfoldable pub left_held : ℕ → ℕ → ℕ
left_held rate held = cond (eqb held (capacity rate)) (half rate) held

unfoldable pub left_places : ℕ → ℕ → List Float → List Float
left_places rate held places = cond (eqb held (capacity rate)) (take (half rate) (drop (half rate) places) ++ drop (half rate) places) places

-- how many of the samples xs there is room for: `(dbm.len() - off).min(self.buf.len() - self.len)`
abbrev pub room : ℕ → ℕ → List Float → ℕ
room rate held xs = min (length xs) (capacity rate - held)

-- how many of the samples xs one filling takes
abbrev pub share : ℕ → Buffer → List Float → ℕ
share rate b xs = room rate (left_held rate b.held) xs

-- one filling: the body of `while off < dbm.len()`
unfoldable pub filled : ℕ → Buffer → List Float → Buffer
filled rate b xs =
    record {
      held = left_held rate b.held + share rate b xs;
      places = paste (left_places rate b.held b.places) (left_held rate b.held) xs (share rate b xs);
    }

-- fillings while there are samples; n is at least as many as they are
unfoldable pub all_filled : ℕ → ℕ → Buffer → List Float → Buffer
all_filled rate zero b xs = b
all_filled rate (suc n) b [] = b
all_filled rate (suc n) b (x ∷ xs) = all_filled rate n (filled rate b (x ∷ xs)) (drop (share rate b (x ∷ xs)) (x ∷ xs))
