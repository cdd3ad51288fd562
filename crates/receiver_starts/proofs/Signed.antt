-- Signed numbers by how far they lie after 0 and before it, so that what is said of them is said of whole numbers. Assumes nothing.
use mathlib.Core.Bool.{true, false, true≢false}
use mathlib.Core.Logic.{⊎_elim}
use mathlib.Core.Path.{◌≡◌, ◌∙◌, ap, refl, sym}
use Prim.Native.Nat.{ℕ, zero, suc, ◌+◌, ◌-◌, ◌^◌, ◌<◌}
use native.Mathlib.Omega.{arith}
use lib.Dec.{T, leb, ltb}
use lib.IntN.{ℤ, pos, negsuc, neg_ℤ, nat_abs, sub_ℕ, ◌+ℤ◌, ◌-ℤ◌}
use lib.Signed.{le_z, lt_z, mag, non_neg}
use borrow.Author.Tests.{le-leb, le-ltb, leb-false, leb-true, lt-leb, lt-ltb, ltb-false, ltb-true}
use Rattle.endian.specs.Bytes.{signed_bits}
use Rattle.ledger.specs.Ledger.{dist}
use Rattle.ledger.proofs.Basics.{either}

abbrev pub ahead : ℤ → ℕ
ahead (pos n) = n
ahead (negsuc k) = 0

abbrev pub behind : ℤ → ℕ
behind (pos n) = 0
behind (negsuc k) = suc k

-- a number by its two parts
pub parts : (d : ℤ) → d ≡ sub_ℕ (ahead d) (behind d)
parts (pos n) = let e : n ≡ n - 0 = omega arith in rw (le-ltb n 0 (omega arith)) (ap pos e)
parts (negsuc k) = let e : k ≡ suc k - 1 = omega arith in rw (lt-ltb 0 (suc k) (omega arith)) (ap negsuc e)

module _ (a b : ℕ) where
  pub sub-ahead : ahead (sub_ℕ a b) ≡ a - b
  sub-ahead =
      ⊎_elim (λ e. let h = ltb-true a b e in rw e (omega arith)) (λ e. let h = ltb-false a b e in rw e refl) (either (ltb a b))

  pub sub-behind : behind (sub_ℕ a b) ≡ b - a
  sub-behind =
      ⊎_elim (λ e. let h = ltb-true a b e in rw e (omega arith)) (λ e. let h = ltb-false a b e in rw e (omega arith)) (either (ltb a b))

  -- the same difference
  pub sub_same : (c d : ℕ) → a + d ≡ c + b → sub_ℕ a b ≡ sub_ℕ c d
  sub_same c d h =
      ⊎_elim
      (λ e. let g = ltb-true a b e in let k : b - suc a ≡ d - suc c = omega arith in rw (e, lt-ltb c d (omega arith)) (ap negsuc k))
      (λ e. let g = ltb-false a b e in let k : a - b ≡ c - d = omega arith in rw (e, le-ltb c d (omega arith)) (ap pos k))
      (either (ltb a b))

-- ---- sums

add-pos : (d : ℤ) (n : ℕ) → d +ℤ pos n ≡ sub_ℕ (ahead d + n) (behind d)
add-pos (pos a) n = parts (pos (a + n))
add-pos (negsuc k) n = sub_same n (suc k) (0 + n) (suc k) (omega arith)

-- a number with 2^31 added, where it has no sign
pub biased_is : (d : ℤ) (r n : ℕ) → pos r ≡ d +ℤ pos n → r + behind d ≡ n + ahead d
biased_is d r n e =
    let p : pos r ≡ sub_ℕ (ahead d + n) (behind d) = e ∙ add-pos d n in
    let a : r ≡ (ahead d + n) - behind d = ap ahead p ∙ sub-ahead (ahead d + n) (behind d) in
    let b : 0 ≡ behind d - (ahead d + n) = ap behind p ∙ sub-behind (ahead d + n) (behind d) in
    omega arith

pub minus_is : (d : ℤ) (n : ℕ) → d -ℤ pos n ≡ sub_ℕ (ahead d) (behind d + n)
minus_is (pos a) zero = let e : a + 0 ≡ a = omega arith in let f : 0 ≡ 0 + 0 = omega arith in rw (e, ← f) (parts (pos a))
minus_is (pos a) (suc n) = let e : suc n ≡ 0 + suc n = omega arith in rw (← e) refl
minus_is (negsuc k) zero = let e : suc k + 0 ≡ suc k = omega arith in rw e refl
minus_is (negsuc k) (suc n) = parts (negsuc (suc (k + n))) ∙ sub_same 0 (suc (suc (k + n))) 0 (suc k + suc n) (omega arith)

apart-sub : (a b : ℕ) → nat_abs (sub_ℕ a b) ≡ dist a b
apart-sub a b =
    ⊎_elim (λ e. let h = ltb-true a b e in rw e (omega arith)) (λ e. let h = ltb-false a b e in rw e (omega arith)) (either (ltb a b))

-- how far two numbers lie apart
pub apart_is : (a b : ℤ) → nat_abs (a -ℤ b) ≡ dist (ahead a + behind b) (ahead b + behind a)
apart_is a (pos n) =
    ap nat_abs (minus_is a n) ∙ apart-sub (ahead a) (behind a + n) ∙ omega arith
apart_is a (negsuc k) =
    ap nat_abs (add-pos a (suc k)) ∙ apart-sub (ahead a + suc k) (behind a) ∙ omega arith

-- ---- tests

pub below_is : (d : ℤ) (n : ℕ) → lt_z d (pos n) ≡ ltb (ahead d) (n + behind d)
below_is (pos a) n = let e : n + 0 ≡ n = omega arith in rw e refl
below_is (negsuc k) n = sym (lt-ltb 0 (n + suc k) (omega arith))

pub from_is : (d : ℤ) (n : ℕ) → le_z (neg_ℤ (pos n)) d ≡ leb (behind d) n
from_is (pos a) zero = le-leb 0 a (omega arith) ∙ sym (le-leb 0 0 (omega arith))
from_is (pos a) (suc n) = sym (le-leb 0 (suc n) (omega arith))
from_is (negsuc k) zero = sym (lt-leb (suc k) 0 (omega arith))
from_is (negsuc k) (suc n) =
    ⊎_elim
    (λ e. let h = leb-true k n e in e ∙ sym (le-leb (suc k) (suc n) (omega arith)))
    (λ e. let h = leb-false k n e in e ∙ sym (lt-leb (suc k) (suc n) (omega arith)))
    (either (leb k n))

-- ---- 32 bits: a number from 0 on, and one below 0 with all bits inverted

pub plain_cast : (z : ℤ) → mag z < 2 ^ 31 → le_z (pos 0) z ≡ true → T (non_neg z) × (nat_abs z < 2 ^ 31)
plain_cast (pos n) f t = (tt, f)
plain_cast (negsuc k) f t = absurd (true≢false (sym t))

pub plain-biased : (z : ℤ) → le_z (pos 0) z ≡ true → pos (2 ^ 31 + nat_abs z) ≡ z +ℤ pos (2 ^ 31)
plain-biased (pos n) t = let e : 2 ^ 31 + n ≡ n + 2 ^ 31 = omega arith in ap pos e
plain-biased (negsuc k) t = absurd (true≢false (sym t))

pub inverted-lt : (z : ℤ) → mag z < 2 ^ 31 → le_z (pos 0) z ≡ false → 4294967295 - signed_bits 32 z < 2 ^ 31
unfolding signed_bits
inverted-lt (pos n) f t = absurd (true≢false (sym (le-leb 0 n (omega arith)) ∙ t))
inverted-lt (negsuc k) f t = omega arith

pub inverted-biased : (z : ℤ) → mag z < 2 ^ 31 → le_z (pos 0) z ≡ false → pos (2147483647 - (4294967295 - signed_bits 32 z)) ≡ z +ℤ pos (2 ^ 31)
unfolding signed_bits
inverted-biased (pos n) f t = absurd (true≢false (sym (le-leb 0 n (omega arith)) ∙ t))
inverted-biased (negsuc k) f t =
    let e : 2147483647 - (4294967295 - (2 ^ 32 - suc k)) ≡ 2 ^ 31 - suc k = omega arith in
    rw (le-ltb (2 ^ 31) (suc k) (omega arith)) (ap pos e)
