-- Bit indexes: integers moved up by 2^31 keep their order and their distances; a float that is not lost has its place there. Assumes nothing.
use Rattle.std.proofs.Common.{◌≡◌, ℕ, zero, suc, ◌+◌, ◌-◌, ◌*◌, ◌/◌, ◌^◌, ◌<◌, ◌≤◌, min, max, Bool, true, false, cond, T, eqb, ltb, leb, ℤ, pos, negsuc, ◌-ℤ◌, neg_ℤ, sym, refl, ap, ◌∙◌, ⊎_elim, true≢false, arith, ltb-false, le-ltb, lt-ltb, eq-eqb, ne_eqb, eqb-true, le-leb}
use native.Mathlib.Nat.{zero-div}
use lib.IntN.{suc_ℤ, sub_ℕ}
use lib.Ieee.{Float, nan, inf, fin, up, down, lt, is_nan, of_int, round, to_signed, to_unsigned}
use borrow.Author.Tests.{lt-leb, eqb-false}
use Rattle.floats.specs.Number.{num}
use Rattle.floats.specs.Trig.{magnitude}
use Rattle.clock.specs.Numbers.{farthest_bit}
use Rattle.clock.specs.Clock.{size_of, lost, as_index, at_most}
use Rattle.clock.specs.Bits.{larger, positive_part, same}
use Rattle.clock.specs.Running.{place}
use Rattle.dips.proofs.DipLaws.{lt_or_ge}

-- ---- an index moved up

unfoldable pub moved : ℤ → ℕ
moved (pos n) = farthest_bit + n
moved (negsuc n) = farthest_bit - suc n

-- not below -2^31
abbrev pub Low : ℤ → Type 0
Low (pos n) = T true
Low (negsuc n) = suc n ≤ farthest_bit

same_leb : (a b c d : ℕ) → (a ≤ b → c ≤ d) → (b < a → d < c) → leb a b ≡ leb c d
same_leb a b c d f g =
    ⊎_elim (λ h. lt-leb a b h ∙ sym (lt-leb c d (g h))) (λ h. le-leb a b h ∙ sym (le-leb c d (f h))) (lt_or_ge b a)

same_eqb : (a b c d : ℕ) → (a ≡ b → c ≡ d) → (c ≡ d → a ≡ b) → eqb a b ≡ eqb c d
same_eqb a b c d f g = go (eqb a b) (eqb-true a b) (eqb-false a b)
  where
    go : (t : Bool) → (t ≡ true → a ≡ b) → (t ≡ false → a ≡ b → ⊥) → t ≡ eqb c d
    go true h k = sym (eq-eqb c d (f (h refl)))
    go false h k = sym (ne_eqb c d (λ e. k refl (g e)))

pub at_most_lem : (j k : ℤ) → Low j → Low k → at_most j k ≡ leb (moved j) (moved k)
unfolding at_most moved
at_most_lem (pos m) (pos n) a b = same_leb m n (farthest_bit + m) (farthest_bit + n) (λ h. omega arith) (λ h. omega arith)
at_most_lem (pos m) (negsuc n) a b = sym (lt-leb (farthest_bit + m) (farthest_bit - suc n) (omega arith))
at_most_lem (negsuc m) (pos n) a b = sym (le-leb (farthest_bit - suc m) (farthest_bit + n) (omega arith))
at_most_lem (negsuc m) (negsuc n) a b = same_leb n m (farthest_bit - suc m) (farthest_bit - suc n) (λ h. omega arith) (λ h. omega arith)

pub same_is : (j k : ℤ) → Low j → Low k → same j k ≡ eqb (moved j) (moved k)
unfolding same moved
same_is (pos m) (pos n) a b = same_eqb m n (farthest_bit + m) (farthest_bit + n) (λ h. omega arith) (λ h. omega arith)
same_is (pos m) (negsuc n) a b = sym (ne_eqb (farthest_bit + m) (farthest_bit - suc n) (λ e. omega arith))
same_is (negsuc m) (pos n) a b = sym (ne_eqb (farthest_bit - suc m) (farthest_bit + n) (λ e. omega arith))
same_is (negsuc m) (negsuc n) a b = same_eqb m n (farthest_bit - suc m) (farthest_bit - suc n) (λ h. omega arith) (λ h. omega arith)

pub low-next : (k : ℤ) → Low k → Low (suc_ℤ k)
low-next (pos n) a = tt
low-next (negsuc zero) a = tt
low-next (negsuc (suc n)) a = omega arith

pub moved-next : (k : ℤ) → Low k → moved (suc_ℤ k) ≡ suc (moved k)
unfolding moved
moved-next (pos n) a = omega arith
moved-next (negsuc zero) a = omega arith
moved-next (negsuc (suc n)) a = omega arith

positive-sub : (a b : ℕ) → positive_part (sub_ℕ a b) ≡ a - b
positive-sub a b =
    ⊎_elim (λ h. rw (lt-ltb a b h) (omega arith)) (λ h. rw (le-ltb a b h)) (lt_or_ge a b)

positive-part : (j k : ℤ) → Low j → Low k → positive_part (j -ℤ k) ≡ moved j - moved k
unfolding moved
positive-part (pos a) (pos zero) p q = omega arith
positive-part (pos a) (pos (suc b)) p q = positive-sub a (suc b) ∙ omega arith
positive-part (pos a) (negsuc b) p q = omega arith
positive-part (negsuc a) (pos zero) p q = positive-sub 0 (suc a) ∙ omega arith
positive-part (negsuc a) (pos (suc b)) p q = omega arith
positive-part (negsuc a) (negsuc b) p q = positive-sub (suc b) (suc a) ∙ omega arith

-- how many indexes first..=end has
pub how_many : (first end : ℤ) → Low first → Low end → positive_part (suc_ℤ end -ℤ first) ≡ moved end + 1 - moved first
how_many first end p q =
    let e = moved-next end q in positive-part (suc_ℤ end) first (low-next end q) p ∙ omega arith

pub low-larger : (j k : ℤ) → Low j → Low k → Low (larger j k)
unfolding larger
low-larger j k a b = go (at_most j k)
  where
    go : (t : Bool) → Low (cond t k j)
    go true = b
    go false = a

pub moved-larger : (j k : ℤ) → Low j → Low k → moved (larger j k) ≡ max (moved j) (moved k)
unfolding larger
moved-larger j k a b =
    ⊎_elim
    (λ h. rw (at_most_lem j k a b, lt-leb (moved j) (moved k) h) (omega arith))
    (λ h. rw (at_most_lem j k a b, le-leb (moved j) (moved k) h) (omega arith))
    (lt_or_ge (moved k) (moved j))

-- ---- a float that is not lost

cut-signed : (s : Bool) (q : ℕ) → q ≤ farthest_bit → Low (cond s (neg_ℤ (pos (min q (2 ^ 63)))) (pos (min q (2 ^ 63 - 1))))
    × (moved (cond s (neg_ℤ (pos (min q (2 ^ 63)))) (pos (min q (2 ^ 63 - 1)))) ≡ cond s (farthest_bit - q) (farthest_bit + q))
unfolding moved
cut-signed false q h = let z : min q (2 ^ 63 - 1) ≡ q = omega arith in rw z (tt, refl)
cut-signed true q h = let z : min q (2 ^ 63) ≡ q = omega arith in rw z (go q h)
  where
    go : (q : ℕ) → q ≤ farthest_bit → Low (neg_ℤ (pos q)) × (moved (neg_ℤ (pos q)) ≡ farthest_bit - q)
    go zero h = (tt, omega arith)
    go (suc q) h = (h, refl)

-- the sign of a float, by its comparison with zero
below-zero : (s : Bool) (m : ℕ) (e : ℤ) (q : ℕ) → (m * up e ≡ 0 → q ≡ 0) → cond s (farthest_bit - q) (farthest_bit + q) ≡ cond (lt (fin s m e) (num 0)) (farthest_bit - q) (farthest_bit + q)
unfolding lt of_int round
below-zero false m e q f = rw (le-ltb (m * up e * 1) (0 * down e) (omega arith))
below-zero true m e q f = go (ltb 0 (m * up e * 1 + 0 * down e)) (ltb-false 0 (m * up e * 1 + 0 * down e))
  where
    go : (t : Bool) → (t ≡ false → m * up e * 1 + 0 * down e ≤ 0) → farthest_bit - q ≡ cond t (farthest_bit - q) (farthest_bit + q)
    go true g = refl
    go false g = let h = g refl in let z = f (omega arith) in omega arith

pub index-place : (x : Float) → lost x ≡ false → Low (as_index x) × (moved (as_index x) ≡ place x)
unfolding lost size_of place magnitude to_signed to_unsigned is_nan
index-place nan h = absurd (true≢false h)
index-place (inf s) h = absurd (true≢false h)
index-place (fin s m e) h =
    let l : min (m * up e / down e) (2 ^ 64 - 1) ≤ farthest_bit = ltb-false farthest_bit (min (m * up e / down e) (2 ^ 64 - 1)) h in
    let z : min (m * up e / down e) (2 ^ 64 - 1) ≡ m * up e / down e = omega arith in
    let c = cut-signed s (m * up e / down e) (omega arith) in
    (c.0, c.1 ∙ rw z (below-zero s m e (m * up e / down e) (λ n. ap (λ (k : ℕ). k / down e) n ∙ zero-div (down e))))
