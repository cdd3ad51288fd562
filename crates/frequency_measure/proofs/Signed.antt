-- frame_frequency compares indices as i64; an index below 2^62 compares with the u64 of the same float as it does with the i64. Assumes nothing.
use mathlib.Core.Path.{◌≡◌, refl, sym, ◌∙◌}
use mathlib.Core.Bool.{Bool, true, false}
use Prim.Native.Nat.{ℕ, zero, suc, ◌-◌, ◌*◌, ◌/◌, ◌^◌, ◌≤◌, ◌<◌, min}
use native.Mathlib.Nat.{le-min, min-eq_left}
use native.Mathlib.Omega.{arith}
use borrow.Author.Tests.{leb-true, leb-false, le-leb, lt-leb, lt-ltb, le-ltb}
use lib.Dec.{leb, ltb}
use lib.IntN.{ℤ, pos, negsuc, neg_ℤ}
use lib.Ieee.{Float, nan, inf, fin, up, down, to_unsigned, to_signed}

-- z ≤ at and at < z, of an i64 z and an index
abbrev pub up_to_index : ℤ → ℕ → Bool
up_to_index (pos n) at = leb n at
up_to_index (negsuc n) at = true

abbrev pub above_index : ℕ → ℤ → Bool
above_index at (pos n) = ltb at n
above_index at (negsuc n) = false

-- both ends of the two ranges lie beyond the index
large : (k a : ℕ) → a < 2 ^ 62 → (leb (min k (2 ^ 64 - 1)) a ≡ leb (min k (2 ^ 63 - 1)) a) × (ltb a (min k (2 ^ 64 - 1)) ≡ ltb a (min k (2 ^ 63 - 1)))
large k a h = go (leb k (2 ^ 63 - 1)) (leb-true k (2 ^ 63 - 1)) (leb-false k (2 ^ 63 - 1))
  where
    go : (t : Bool) → (t ≡ true → k ≤ 2 ^ 63 - 1) → (t ≡ false → 2 ^ 63 - 1 < k) → (leb (min k (2 ^ 64 - 1)) a ≡ leb (min k (2 ^ 63 - 1)) a) × (ltb a (min k (2 ^ 64 - 1)) ≡ ltb a (min k (2 ^ 63 - 1)))
    go true p q =
        let b = p refl in
        let x : min k (2 ^ 64 - 1) ≡ k = min-eq_left (omega arith) in
        let y : min k (2 ^ 63 - 1) ≡ k = min-eq_left b in
        (rw (x, y) refl, rw (x, y) refl)
    go false p q =
        let b = q refl in
        let x : a < min k (2 ^ 64 - 1) = le-min (omega arith) (omega arith) in
        let y : a < min k (2 ^ 63 - 1) = le-min (omega arith) (omega arith) in
        (lt-leb _ _ x ∙ sym (lt-leb _ _ y), lt-ltb _ _ x ∙ sym (lt-ltb _ _ y))

nothing_up : (k a : ℕ) → up_to_index (neg_ℤ (pos k)) a ≡ true
nothing_up zero a = le-leb 0 a (omega arith)
nothing_up (suc k) a = refl

nothing_above : (k a : ℕ) → above_index a (neg_ℤ (pos k)) ≡ false
nothing_above zero a = le-ltb a 0 (omega arith)
nothing_above (suc k) a = refl

-- r.at >= from
pub same_up_to : (x : Float) (a : ℕ) → a < 2 ^ 62 → leb (to_unsigned 64 x) a ≡ up_to_index (to_signed 63 x) a
unfolding to_unsigned to_signed
same_up_to nan a h = refl
same_up_to (inf true) a h = le-leb 0 a (omega arith) ∙ sym (nothing_up (2 ^ 63) a)
same_up_to (inf false) a h = lt-leb (2 ^ 64 - 1) a (omega arith) ∙ sym (lt-leb (2 ^ 63 - 1) a (omega arith))
same_up_to (fin true m e) a h = le-leb 0 a (omega arith) ∙ sym (nothing_up (min (m * up e / down e) (2 ^ 63)) a)
same_up_to (fin false m e) a h = (large (m * up e / down e) a h).0

-- r.at < to
pub same_above : (x : Float) (a : ℕ) → a < 2 ^ 62 → ltb a (to_unsigned 64 x) ≡ above_index a (to_signed 63 x)
unfolding to_unsigned to_signed
same_above nan a h = refl
same_above (inf true) a h = le-ltb a 0 (omega arith) ∙ sym (nothing_above (2 ^ 63) a)
same_above (inf false) a h = lt-ltb a (2 ^ 64 - 1) (omega arith) ∙ sym (lt-ltb a (2 ^ 63 - 1) (omega arith))
same_above (fin true m e) a h = le-ltb a 0 (omega arith) ∙ sym (nothing_above (min (m * up e / down e) (2 ^ 63)) a)
same_above (fin false m e) a h = (large (m * up e / down e) a h).1
