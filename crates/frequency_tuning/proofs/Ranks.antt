-- The first span that has a rank, found by a loop. Assumes nothing.
use Rattle.std.proofs.Common.{◌≡◌, ℕ, ◌+◌, ◌<◌, ◌≤◌, List, length, get_or, drop, None, refl, add-one, drop-cons, drop_of_length-le, eq-eqb, ne_eqb}
use Rattle.frequency_lists.specs.declared.Reading.{Reading}
use Rattle.record.specs.declared.FrameSpan.{FrameSpan}
use Rattle.frequency_measure.specs.Measured.{frame_frequency, of_rank}

module _ (rate : ℕ) (rs : List Reading) (l : List FrameSpan) (k i : ℕ) (d : FrameSpan) where
  pub rank_here : i < length l → (get_or l i d).rank ≡ k → of_rank rate rs (drop i l) k ≡ frame_frequency rate rs (get_or l i d).time (get_or l i d).end
  unfolding of_rank
  rank_here h e = rw (drop-cons l i d h, eq-eqb (get_or l i d).rank k e) refl

  pub rank_later : i < length l → ((get_or l i d).rank ≡ k → ⊥) → of_rank rate rs (drop i l) k ≡ of_rank rate rs (drop (i + 1) l) k
  unfolding of_rank
  rank_later h e = rw (drop-cons l i d h, ne_eqb (get_or l i d).rank k e, add-one i) refl

  pub rank_none : length l ≤ i → of_rank rate rs (drop i l) k ≡ None
  unfolding of_rank
  rank_none h = rw (drop_of_length-le l {i = i} h) refl
