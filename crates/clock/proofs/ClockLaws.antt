-- Laws of the bit clock, step by step. Assumes nothing.
use Rattle.std.proofs.Common.{◌∙◌, sym, ◌≡◌, ℕ, ◌+◌, ◌-◌, ◌<◌, ◌≤◌, min, true, false, ltb, List, length, get_or, take, sym, ⊎_elim, add-one, arith, take_all, ltb-false, le-leb}
use native.Mathlib.Nat.{min-eq_left, min-eq_right}
use lib.Seq.{slice, slice-cons, slice_empty}
use lib.Ieee.{Float, nan, binary64, add, lt, is_nan}
use borrow.Author.Tests.{lt-leb}
use Rattle.floats.specs.Number.{num}
use Rattle.floats.specs.Trig.{sine, cosine}
use Rattle.clock.specs.declared.Clock.{Clock}
use Rattle.clock.specs.declared.Step.TheVariants.{Lost, Skipped, Joined}
use Rattle.clock.specs.Numbers.{anchors, refits, farthest_bit}
use Rattle.clock.specs.Clock.{sum_from, angle, turned, anchor, size_of, lost}
use Rattle.clock.specs.Running.{place, index_at, skips, summed, det, refitted, refit, step}
use Rattle.dips.proofs.DipLaws.{lt_or_ge, or_right}

-- ---- bit indexes

pub size_small : (k : Float) → lost k ≡ false → size_of k ≤ farthest_bit
unfolding lost
size_small k e = ltb-false farthest_bit (size_of k) (or_right (is_nan k) (ltb farthest_bit (size_of k)) e)

pub place-below : (k : Float) → lt k (num 0) ≡ true → farthest_bit - size_of k ≡ place k
unfolding place
place-below k e = rw e

pub place-above : (k : Float) → lt k (num 0) ≡ false → farthest_bit + size_of k ≡ place k
unfolding place
place-above k e = rw e

-- ---- the fit

pub refit-few : (c : Clock) → c.count < refits → c ≡ refit c
unfolding refit
refit-few c h = rw (lt-leb refits c.count h)

pub refit_none : (c : Clock) → refits ≤ c.count → lt (num 0) (det c) ≡ false → c ≡ refit c
unfolding refit
refit_none c h e = rw (le-leb refits c.count h, e)

pub refit-done : (c : Clock) → refits ≤ c.count → lt (num 0) (det c) ≡ true → refitted c ≡ refit c
unfolding refit
refit-done c h e = rw (le-leb refits c.count h, e)

module _ (c : Clock) (d : Float) where
  pub step-lost : lost (index_at c d) ≡ true → Lost ≡ step c d
  unfolding step
  step-lost e = rw e

  pub step-skipped : lost (index_at c d) ≡ false → skips c d (index_at c d) ≡ true → Skipped ≡ step c d
  unfolding step
  step-skipped e s = rw (e, s)

  pub step-joined : (r : Clock) → lost (index_at c d) ≡ false → skips c d (index_at c d) ≡ false → r ≡ refit (summed c d (index_at c d)) → Joined r ≡ step c d
  unfolding step
  step-joined r e s q = rw (e, s, q)

-- ---- the anchor

pub first_few : (m : ℕ) (l : List Float) → take (min (length l) m) l ≡ take m l
first_few m l =
    ⊎_elim
    (λ h. let e : min (length l) m ≡ length l = min-eq_left (omega arith) in rw e (take_all (length l) l (omega arith) ∙ sym (take_all m l (omega arith))))
    (λ h. let e : min (length l) m ≡ m = min-eq_right h in rw e)
    (lt_or_ge (length l) m)

-- a sum over the elements from i on, one step, and at its end
module _ (f : Float → Float) (l : List Float) (i to : ℕ) (w : Float) where
  pub sum-turn : (s r : Float) → i < to → to ≤ length l → r ≡ f (get_or l i nan) → sum_from f s (slice i to l) ≡ w → sum_from f (add binary64 s r) (slice (i + 1) to l) ≡ w
  unfolding sum_from
  sum-turn s r h k e p = rw (e, add-one i) (rw (slice-cons i to l nan h k) at p)

  pub sum_end : (s : Float) → i ≡ to → sum_from f s (slice i to l) ≡ w → s ≡ w
  unfolding sum_from
  sum_end s e p = rw (e, slice_empty to l) at p

-- what the angles of dips are summed by
abbrev pub sine_of : Float → Float → Float → Float
sine_of nominal d₀ d = sine (angle nominal d₀ d)

abbrev pub cosine_of : Float → Float → Float → Float
cosine_of nominal d₀ d = cosine (angle nominal d₀ d)

pub anchor_is : (nominal d₀ : Float) (l : List Float) (to : ℕ) (s c : Float) → to ≡ min (length l) anchors
    → s ≡ sum_from (sine_of nominal d₀) (num 0) (slice 0 to l) → c ≡ sum_from (cosine_of nominal d₀) (num 0) (slice 0 to l) → turned nominal d₀ s c ≡ anchor nominal d₀ l
unfolding anchor
anchor_is nominal d₀ l to s c e p q = rw (p, q, e, first_few anchors l)
