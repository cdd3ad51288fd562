-- Marks of records: what one more changes, and the numbers that they stand for. Assumes nothing.
use mathlib.Core.Path.{◌≡◌, refl, sym, ap, ◌∙◌}
use mathlib.Core.Bool.{Bool, true, false, cond, ◌&&◌, ◌||◌}
use mathlib.Core.List.{List, [], ◌++◌}
use Prim.Native.Nat.{ℕ, zero, suc, ◌+◌, ◌*◌, ◌/◌, ◌%◌, ◌^◌, ◌≤◌, ◌<◌, max}
use native.Mathlib.Nat.{zero-div, pow-le-pow_right, zero-lt-suc}
use native.Mathlib.Numerals.{add-one}
use native.Mathlib.Omega.{arith}
use lib.Bits.{bit_or, or_shr, or_step}
use lib.Dec.{eqb, ltb}
use lib.ListN.{length, get_or, set, replicate, length-append, length-set}
use lib.Seq.{sets, get_or-set_same, get_or-set_other}
use lib.Ieee.{Float}
use borrow.Author.Tests.{eqb-true, eqb-false, eq-eqb, ne_eqb, ltb-true, ltb-false, lt-ltb, le-ltb}
use Rattle.limits.proofs.Samples.{and_left, and_right}
use Rattle.coding.specs.Bits.{odd}
use Rattle.event_list.proofs.SumLaws.{sets_append}
use Rattle.grip.specs.OnAir.{is_on_air, air_from}
use Rattle.grip.specs.Marks.{mark_at, with_mark, Unmarked, number_if, marked_of}
use Rattle.grip.proofs.OrderLaws.{cases}
use Rattle.grip.proofs.AirLaws.{up_to, next_is, whole}

-- ---- a bit

-- power n / 8 of two has digit n % 8 where the two are equal, and no other
abbrev one : ℕ → Bool
one n = eqb (2 ^ (n / 8) / 2 ^ (n % 8) % 2) (cond (eqb (n % 8) (n / 8)) 1 0)

abbrev all_below : ℕ → Bool
all_below zero = true
all_below (suc n) = one n && all_below n

below : (n : ℕ) → all_below n ≡ true → (x : ℕ) → x < n → one x ≡ true
below zero t x h = absurd (omega arith)
below (suc n) t x h = choose (eqb x n) (eqb-true x n) (eqb-false x n) (below n (and_right (one n) (all_below n) t) x)
  where
    choose : (b : Bool) → (b ≡ true → x ≡ n) → (b ≡ false → x ≡ n → ⊥) → (x < n → one x ≡ true) → one x ≡ true
    choose true f g r = ap one (f refl) ∙ and_left (one n) (all_below n) t
    choose false f g r = r (omega (arith, g refl))

power_bit : (c a : ℕ) → c < 8 → a < 8 → 2 ^ c / 2 ^ a % 2 ≡ cond (eqb a c) 1 0
power_bit c a h k = at_place (8 * c + a) (omega arith) (omega arith) (omega arith)
  where
    at_place : (n : ℕ) → n / 8 ≡ c → n % 8 ≡ a → n < 64 → 2 ^ c / 2 ^ a % 2 ≡ cond (eqb a c) 1 0
    at_place n q r l = cc (q, r, eqb-true (2 ^ (n / 8) / 2 ^ (n % 8) % 2) (cond (eqb (n % 8) (n / 8)) 1 0) (below 64 refl n l))

or_low : (a b : ℕ) → bit_or a b % 2 ≡ max (a % 2) (b % 2)
or_low a b = ap (λ (n : ℕ). n % 2) (or_step a b) ∙ low (bit_or (a / 2) (b / 2)) (a % 2) (b % 2) (omega arith) (omega arith)
  where
    low : (q r s : ℕ) → r < 2 → s < 2 → (q * 2 + max r s) % 2 ≡ max r s
    low q r s h k = omega arith

-- one digit more in a number
or_bit : (m c a : ℕ) → c < 8 → a < 8 → odd (bit_or m (2 ^ c) / 2 ^ a) ≡ eqb a c || odd (m / 2 ^ a)
or_bit m c a h k =
    ap odd (or_shr m (2 ^ c) a)
    ∙ ap (λ (n : ℕ). eqb n 1) (or_low (m / 2 ^ a) (2 ^ c / 2 ^ a) ∙ ap (max (m / 2 ^ a % 2)) (power_bit c a h k))
    ∙ joined (eqb a c) (m / 2 ^ a % 2) (omega arith)
  where
    joined : (t : Bool) (r : ℕ) → r < 2 → eqb (max r (cond t 1 0)) 1 ≡ t || eqb r 1
    joined true zero h = refl
    joined false zero h = refl
    joined true (suc zero) h = refl
    joined false (suc zero) h = refl
    joined t (suc (suc r)) h = absurd (omega arith)

-- a digit in its place, as the code makes it
pub power_fits : (c : ℕ) → c < 8 → 1 * 2 ^ c % 256 ≡ 2 ^ c
power_fits c h = fits (2 ^ c) (pow-le-pow_right (zero-lt-suc 1) {i = c} {j = 7} (omega arith))
  where
    fits : (p : ℕ) → p ≤ 128 → 1 * p % 256 ≡ p
    fits p k = omega arith

-- ---- a mark

-- one more mark
pub with_mark_lem : (marks : List ℕ) (i j : ℕ) → i < 8 * length marks → mark_at (with_mark marks i) j ≡ eqb j i || mark_at marks j
with_mark_lem marks i j h = choose (eqb (j / 8) (i / 8)) (eqb-true (j / 8) (i / 8)) (eqb-false (j / 8) (i / 8))
  where
    new : ℕ
    new = bit_or (get_or marks (i / 8) 0) (2 ^ (i % 8))

    same : j / 8 ≡ i / 8 → eqb (j % 8) (i % 8) ≡ eqb j i
    same e =
        cases (eqb j i)
        (λ t. eq-eqb (j % 8) (i % 8) (ap (λ (n : ℕ). n % 8) (eqb-true j i t)) ∙ sym t)
        (λ t. ne_eqb (j % 8) (i % 8) (λ q. eqb-false j i t (omega arith)) ∙ sym t)

    choose : (b : Bool) → (b ≡ true → j / 8 ≡ i / 8) → (b ≡ false → j / 8 ≡ i / 8 → ⊥) → mark_at (with_mark marks i) j ≡ eqb j i || mark_at marks j
    choose true f g =
        let e = f refl in
        ap (λ (n : ℕ). odd (get_or (set marks (i / 8) new) n 0 / 2 ^ (j % 8))) e
        ∙ ap (λ (n : ℕ). odd (n / 2 ^ (j % 8))) (get_or-set_same marks (i / 8) new 0 (omega arith))
        ∙ or_bit (get_or marks (i / 8) 0) (i % 8) (j % 8) (omega arith) (omega arith)
        ∙ cc (same e, e)
    choose false f g =
        ap (λ (n : ℕ). odd (n / 2 ^ (j % 8))) (get_or-set_other marks (i / 8) (j / 8) new 0 (g refl))
        ∙ ap (λ (t : Bool). t || mark_at marks j) (sym (ne_eqb j i (λ q. g refl (ap (λ (n : ℕ). n / 8) q))))

-- none is marked
pub unmarked : (n : ℕ) → Unmarked (replicate n 0)
unmarked n i = ap (λ (m : ℕ). odd (m / 2 ^ (i % 8))) (zeros n (i / 8)) ∙ none (2 ^ (i % 8))
  where
    zeros : (n k : ℕ) → ◌≡◌ {A = ℕ} (get_or (replicate n 0) k 0) 0
    zeros zero k = refl
    zeros (suc n) zero = refl
    zeros (suc n) (suc k) = zeros n k

    none : (p : ℕ) → odd (0 / p) ≡ false
    none p = ap odd (zero-div p)

-- ---- the records that were looked at

-- record number i is marked as a says, where j's is to be as b says
turned : (a b : Bool) (i j : ℕ) → (j ≡ i → a ≡ b) → a && eqb j i || ltb j i && b ≡ ltb j (i + 1) && b
turned a b i j e =
    cases (eqb j i)
    (λ t. let h = eqb-true j i t in rw (t, le-ltb j i (omega arith), lt-ltb j (i + 1) (omega arith)) (it a (e h)))
    (λ t. rw (t, later (eqb-false j i t)) (other a (ltb j i && b)))
  where
    it : (c : Bool) → c ≡ b → c && true || false ≡ b
    it true q = q
    it false q = q

    other : (c s : Bool) → c && false || s ≡ s
    other true s = refl
    other false s = refl

    later : (j ≡ i → ⊥) → ltb j (i + 1) ≡ ltb j i
    later n = cases (ltb j i) (λ t. lt-ltb j (i + 1) (omega (arith, ltb-true j i t)) ∙ sym t) (λ t. le-ltb j (i + 1) (omega (arith, ltb-false j i t, n)) ∙ sym t)

module _ (x : Float) (es : List (List ℕ)) where
  -- of the records before i those on air are marked, and no other
  abbrev pub Marked : ℕ → List ℕ → Type 0
  Marked i marks = (j : ℕ) → mark_at marks j ≡ ltb j i && is_on_air x (get_or es j [])

  pub marked_start : (marks : List ℕ) → Unmarked marks → Marked 0 marks
  marked_start marks u j = u j ∙ sym (ap (λ (t : Bool). t && is_on_air x (get_or es j [])) (le-ltb j 0 (omega arith)))

  pub marked_turn : (i : ℕ) (marks after : List ℕ) (on : Bool) → i < 8 * length marks → on ≡ is_on_air x (get_or es i [])
      → after ≡ cond on (with_mark marks i) marks → Marked i marks → Marked (i + 1) after
  marked_turn i marks after on h e w m j =
      ap (λ (l : List ℕ). mark_at l j) w ∙ one on
      ∙ ap (λ (t : Bool). on && eqb j i || t) (m j)
      ∙ turned on (is_on_air x (get_or es j [])) i j (λ q. e ∙ ap (λ (k : ℕ). is_on_air x (get_or es k [])) (sym q))
    where
      one : (t : Bool) → mark_at (cond t (with_mark marks i) marks) j ≡ t && eqb j i || mark_at marks j
      one true = with_mark_lem marks i j h
      one false = refl

  first : (n : ℕ) (marks : List ℕ) → n ≤ length es → ((j : ℕ) → j < n → mark_at marks j ≡ is_on_air x (get_or es j [])) → marked_of n marks ≡ up_to es x n
  unfolding marked_of air_from
  first zero marks h m = refl
  first (suc n) marks h m =
      cc (first n marks (omega arith) (λ j l. m j (omega arith)), m n (omega arith))
      ∙ sym (next_is es x n (omega arith))

  pub marked_end : (i : ℕ) (marks : List ℕ) → i ≡ length es → Marked i marks → marked_of i marks ≡ air_from 0 x es
  marked_end i marks e m =
      first i marks (omega arith) (λ j h. m j ∙ ap (λ (t : Bool). t && is_on_air x (get_or es j [])) (lt-ltb j i h))
      ∙ whole es x i e

-- ---- the numbers

module _ (marks : List ℕ) where
  pub marked-le : (n : ℕ) → length (marked_of n marks) ≤ n
  unfolding marked_of
  marked-le zero = omega arith
  marked-le (suc n) = omega (arith, length-append (marked_of n marks) (number_if (mark_at marks n) n), marked-le n, one (mark_at marks n))
    where
      one : (t : Bool) → length (number_if t n) ≤ 1
      one true = omega arith
      one false = omega arith

  pub start : (l : List ℕ) → (0 ≡ length (marked_of 0 marks)) × (l ≡ sets l 0 (marked_of 0 marks))
  unfolding marked_of
  start l = (refl, refl)

  module _ (i n : ℕ) (e : n ≡ length (marked_of i marks)) where
    next : marked_of (i + 1) marks ≡ marked_of i marks ++ number_if (mark_at marks i) i
    unfolding marked_of
    next = ap (λ (k : ℕ). marked_of k marks) (add-one i)

    pub next-count : (k : ℕ) → k ≡ n + length (number_if (mark_at marks i) i) → k ≡ length (marked_of (i + 1) marks)
    next-count k b = omega (arith, ap length next, length-append (marked_of i marks) (number_if (mark_at marks i) i))

    pub next-list : (l s t : List ℕ) → s ≡ sets l 0 (marked_of i marks) → t ≡ sets s n (number_if (mark_at marks i) i) → t ≡ sets l 0 (marked_of (i + 1) marks)
    next-list l s t b c =
        c ∙ cc (b, zero-plus n (length (marked_of i marks)) e)
        ∙ sym (sets_append (marked_of i marks) (number_if (mark_at marks i) i) l 0) ∙ ap (sets l 0) (sym next)
      where
        zero-plus : (n m : ℕ) → n ≡ m → n ≡ 0 + m
        zero-plus n m q = omega arith

pub length-mark : (t : Bool) (marks : List ℕ) (i : ℕ) → length (cond t (with_mark marks i) marks) ≡ length marks
length-mark true marks i = length-set marks (i / 8) _
length-mark false marks i = refl
