-- Scaffolding. How a search for one element of the sorted list stands: a range of numbers, and a rank among the elements in it.
-- Only contracts of `order`'s private functions cite this; what `select` promises is in Order and Sorted.
use Rattle.std.specs.Prelude.{◌≡◌, ℕ, zero, suc, ◌+◌, ◌-◌, ◌*◌, ◌<◌, min, List, length, slice_index, slice_index_or}
use Rattle.order.specs.declared.Range.{Range}
use Rattle.order.specs.declared.Bin.{Bin}
use Rattle.order.specs.Sorted.{below}

-- the bins of a cut: half-dB levels are told apart in one or two rounds, and the counts fit the nearest cache
abbrev pub bins : ℕ
bins = 2048

-- the sum of the first n
unfoldable pub total : List ℕ → ℕ → ℕ
total l zero = 0
total l (suc n) = total l n + slice_index l n

-- where bin d begins, of bins of width w from lo on; none reaches past the range
abbrev pub edge : ℕ → ℕ → ℕ → ℕ → ℕ
edge lo span w d = lo + min (d * w) (span + 1)

-- the part of the range that bin b of width w is
abbrev pub part : Range → Bin → ℕ → Range
part r b w = record { lo = r.lo + b.at * w; span = min (r.span - b.at * w) (w - 1); rank = b.rank }

-- P holds of each element
abbrev pub Each : {A : Type 0} → (A → Type 0) → List A → Type 0
Each {A} P l = (i : ℕ) (d : A) → i < length l → P (slice_index_or l i d)

module _ {A : Type 0} (key : A → ℕ) (l : List A) where
  -- the index in the sorted list of the element sought
  abbrev pub index : Range → ℕ
  index r = below key r.lo l + r.rank

  -- the element sought has its number in the range, lo to lo + span, which ends before `size`
  pub record Searched (size : ℕ) (r : Range) : Type 0 where
    pub fits : r.lo + r.span < size
    pub held : index r < below key (r.lo + r.span + 1) l

  -- the same element is sought in another range
  pub record Kept (size : ℕ) (r s : Range) : Type 0 where
    pub searched : Searched size s
    pub same : index s ≡ index r

  -- the count of bin d is that of the elements from its edge up to the next
  abbrev pub CountedAt : ℕ → ℕ → ℕ → List ℕ → ℕ → Type 0
  CountedAt lo span w counts d = slice_index counts d + below key (edge lo span w d) l ≡ below key (edge lo span w (suc d)) l

  abbrev pub Counted : ℕ → ℕ → ℕ → List ℕ → Type 0
  Counted lo span w counts = (d : ℕ) → d < bins → CountedAt lo span w counts d
