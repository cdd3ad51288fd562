-- The range of a search is cut, over any element type and any key: what the counts of bins and the least and greatest offsets say.
-- Assumes nothing.
use Rattle.std.proofs.Common.{◌≡◌, ℕ, zero, suc, ◌+◌, ◌-◌, ◌*◌, ◌<◌, ◌≤◌, min, List, get_or, ap, ap₂, ⊎_elim, eq-or-lt_of_le, add-one, arith}
use Rattle.order.specs.declared.Range.{Range}
use Rattle.order.specs.declared.Bin.{Bin}
use Rattle.order.specs.Sorted.{below}
use Rattle.order.specs.Search.{bins, total, edge, part, index, Searched, Kept, Counted}
use Rattle.order.proofs.Rank.{below_less}

-- ---- the walk over the first n counts
pub total_none : (counts : List ℕ) (k : ℕ) → total counts 0 + k ≡ k
unfolding total
total_none counts k = omega arith

-- where a bin is passed over, another comes
pub goes_on : (counts : List ℕ) (n at rank k : ℕ) → total counts at + rank ≡ k → get_or counts at 0 ≤ rank → k < total counts n → at < n
    → (at + 1 < n) × (total counts (at + 1) + (rank - get_or counts at 0) ≡ k)
unfolding total
goes_on counts n at rank k e h g w =
    (⊎_elim (λ x. absurd (omega (arith, ap (total counts) x))) (λ y. omega arith) (eq-or-lt_of_le {n = suc at} {m = n} w), rw add-one (omega arith))

pub part_is : (r : Range) (b : Bin) (w lo span : ℕ) → lo ≡ r.lo + b.at * w → span ≡ min (r.span - b.at * w) (w - 1)
    → record { lo = lo; span = span; rank = b.rank } ≡ part r b w
part_is r b w lo span e f = ap₂ (λ (x y : ℕ). record { lo = x; span = y; rank = b.rank }) e f

module _ {A : Type 0} (key : A → ℕ) (l : List A) where
  at_same : (v w : ℕ) → v ≡ w → below key v l ≡ below key w l
  at_same v w e = ap (λ (x : ℕ). below key x l) e

  -- ---- the counts of the bins, of width w
  module _ (r : Range) (w : ℕ) (counts : List ℕ) (all : Counted key l r.lo r.span w counts) where
    -- the elements of the first bins lie between lo and the last one's end
    totals : (n : ℕ) → n ≤ bins → total counts n + below key r.lo l ≡ below key (edge r.lo r.span w n) l
    unfolding total
    totals zero h = omega (arith, at_same r.lo (edge r.lo r.span w 0) (omega arith))
    totals (suc n) h = omega (arith, totals n (omega arith), all n (omega arith))

    module _ {size : ℕ} (old : Searched key l size r) (wide : r.span < bins * w) where
      -- the bins hold the element sought
      pub enough : r.rank < total counts bins
      enough = omega (arith, old.held, totals bins (omega arith), at_same (edge r.lo r.span w bins) (r.lo + r.span + 1) (omega arith))

      module _ (b : Bin) (within : b.at < bins) (rank : total counts b.at + b.rank ≡ r.rank) (here : b.rank < get_or counts b.at 0) where
        start : below key (edge r.lo r.span w b.at) l + b.rank ≡ index key l r
        start = omega (arith, totals b.at (omega arith))

        end : index key l r < below key (edge r.lo r.span w (suc b.at)) l
        end = omega (arith, start, all b.at within)

        -- a bin that holds an element is not past the range
        pub inside : b.at * w ≤ r.span
        inside = omega (arith, below_less key (edge r.lo r.span w b.at) (edge r.lo r.span w (suc b.at)) l (omega (arith, start, end)))

        -- the same element is sought in the bin's part of the range
        module _ (some : 0 < w) where
          pub cut : Kept key l size r (part r b w)
          cut =
              record {
                searched = record { fits = omega (arith, old.fits, inside); held = omega (arith, starts, ends, start, end) };
                same = omega (arith, starts, start);
              }
            where
              starts : below key (r.lo + b.at * w) l ≡ below key (edge r.lo r.span w b.at) l
              starts = at_same (r.lo + b.at * w) (edge r.lo r.span w b.at) (omega (arith, inside))

              ends : below key ((part r b w).lo + (part r b w).span + 1) l ≡ below key (edge r.lo r.span w (suc b.at)) l
              ends = at_same ((part r b w).lo + (part r b w).span + 1) (edge r.lo r.span w (suc b.at)) (omega (arith, inside))

          pub smaller : w ≤ r.span → (part r b w).span < r.span
          smaller h = omega arith
