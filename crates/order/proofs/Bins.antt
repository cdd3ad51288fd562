-- The counts of the bins that a range is cut into, over any element type and any key: one element more.
-- Assumes nothing.
use Rattle.std.proofs.Common.{◌≡◌, ℕ, suc, ◌+◌, ◌*◌, ◌/◌, ◌%◌, ◌<◌, ◌≤◌, List, [], length, get_or, take, set, replicate, sym, ap, ◌∙◌, subst, ⊎_elim, mul-le-mul_right, div-lt_iff_lt-mul, div-mul-le_self, arith, length-set, length-take, take_all, get_or-set_other, get_or-set_same}
use native.Mathlib.Nat.{lt-div-mul-add}
use lib.ListN.{get_or-replicate}
use Rattle.order.specs.Sorted.{below}
use Rattle.order.specs.Search.{bins, edge, CountedAt, Counted}
use Rattle.order.proofs.Rank.{less_or_not, below-le, counted, passed}
use Rattle.order.proofs.Bounds.{wrapped}

-- no element, no count
pub none_counted : {A : Type 0} (key : A → ℕ) (lo span w : ℕ) → Counted key [] lo span w (replicate bins 0)
unfolding below
none_counted key lo span w d h = omega (arith, get_or-replicate {A = ℕ} bins d 0 0 h)

pub bin_lt : (t span w : ℕ) → 0 < w → t ≤ span → span < bins * w → t / w < bins
bin_lt t span w some near wide = (div-lt_iff_lt-mul {k = w} {x = t} {y = bins} some).1 (omega arith)

pub all_counted : {A : Type 0} (key : A → ℕ) (l : List A) (i lo span w : ℕ) (counts : List ℕ) → length l ≤ i → Counted key (take i l) lo span w counts
    → Counted key l lo span w counts
all_counted key l i lo span w counts h all = rw (take_all i l h) at all

module _ {A : Type 0} (key : A → ℕ) (l : List A) (i : ℕ) (z : A) (h : i < length l) where
  module _ (lo span w : ℕ) (counts : List ℕ) (all : Counted key (take i l) lo span w counts) where
    -- no count is above the elements passed
    pub few : (d : ℕ) → d < bins → get_or counts d 0 ≤ i
    few d b = omega (arith, all d b, below-le key (edge lo span w (suc d)) (take i l), length-take i l)

    -- an element at an offset t that was taken modulo m
    module _ (m t : ℕ) (small : t < m) (fits : lo + span < m) (e : (t + lo) % m ≡ key (get_or l i z)) where
      miss : span < t → Counted key (take (i + 1) l) lo span w counts
      miss far d b =
          ⊎_elim
          (λ v. omega (arith, all d b, passed key (edge lo span w d) l i z h (omega arith), passed key (edge lo span w (suc d)) l i z h (omega arith)))
          (λ v. omega (arith, all d b, counted key (edge lo span w d) l i z h (omega arith), counted key (edge lo span w (suc d)) l i z h (omega arith)))
          (wrapped m lo t (key (get_or l i z)) small (omega arith) e)

      pub missed : length counts ≡ bins → span < t → (after : List ℕ) → after ≡ counts → (length after ≡ bins) × Counted key (take (i + 1) l) lo span w after
      missed room far after e = (ap length e ∙ room, subst (λ (c : List ℕ). Counted key (take (i + 1) l) lo span w c) (sym e) (miss far))

      module _ (some : 0 < w) (room : length counts ≡ bins) (near : t ≤ span) (within : t / w < bins) where
        at : key (get_or l i z) ≡ lo + t
        at = ⊎_elim (λ v. v) (λ v. absurd (omega arith)) (wrapped m lo t (key (get_or l i z)) small (omega arith) e)

        -- the edges of bin d, and the element
        under : (d : ℕ) → d < t / w → edge lo span w (suc d) ≤ key (get_or l i z)
        under d g = omega (arith, at, mul-le-mul_right w g, div-mul-le_self t w)

        over : (d : ℕ) → t / w < d → key (get_or l i z) < edge lo span w d
        over d g = omega (arith, at, mul-le-mul_right w g, lt-div-mul-add {a = t} some)

        starts : edge lo span w (t / w) ≤ key (get_or l i z)
        starts = omega (arith, at, div-mul-le_self t w)

        hit : Counted key (take (i + 1) l) lo span w (set counts (t / w) (get_or counts (t / w) 0 + 1))
        hit d b = ⊎_elim before (λ g. ⊎_elim after (λ k. here (omega arith)) (less_or_not (t / w) d)) (less_or_not d (t / w))
          where
            before : d < t / w → CountedAt key (take (i + 1) l) lo span w (set counts (t / w) (get_or counts (t / w) 0 + 1)) d
            before g =
                omega (
                  arith,
                  all d b,
                  get_or-set_other counts (t / w) d (get_or counts (t / w) 0 + 1) 0 (omega arith),
                  passed key (edge lo span w d) l i z h (omega (arith, under d g)),
                  passed key (edge lo span w (suc d)) l i z h (under d g),
                )

            after : t / w < d → CountedAt key (take (i + 1) l) lo span w (set counts (t / w) (get_or counts (t / w) 0 + 1)) d
            after g =
                omega (
                  arith,
                  all d b,
                  get_or-set_other counts (t / w) d (get_or counts (t / w) 0 + 1) 0 (omega arith),
                  counted key (edge lo span w d) l i z h (over d g),
                  counted key (edge lo span w (suc d)) l i z h (over (suc d) (omega arith)),
                )

            here : d ≡ t / w → CountedAt key (take (i + 1) l) lo span w (set counts (t / w) (get_or counts (t / w) 0 + 1)) d
            here e =
                rw e
                (omega (
                  arith,
                  all (t / w) within,
                  get_or-set_same counts (t / w) (get_or counts (t / w) 0 + 1) 0 (omega arith),
                  passed key (edge lo span w (t / w)) l i z h starts,
                  counted key (edge lo span w (suc (t / w))) l i z h (over (suc (t / w)) (omega arith)),
                ))

        pub stored : (after : List ℕ) → after ≡ set counts (t / w) (get_or counts (t / w) 0 + 1) → (length after ≡ bins) × Counted key (take (i + 1) l) lo span w after
        stored after e =
            (ap length e ∙ length-set counts (t / w) (get_or counts (t / w) 0 + 1) ∙ room, subst (λ (c : List ℕ). Counted key (take (i + 1) l) lo span w c) (sym e) hit)
