-- The day of a time, by its whole seconds. Assumes nothing.
use mathlib.Core.Path.{◌≡◌, refl, sym, ap, ◌∙◌, subst}
use mathlib.Core.Bool.{Bool, true, false, cond, ◌&&◌, true≢false}
use Prim.Native.Nat.{ℕ, zero, suc, ◌+◌, ◌-◌, ◌*◌, ◌/◌, ◌^◌, ◌≤◌, ◌<◌, min}
use native.Mathlib.Nat.{pos_of_ne-zero, mul-pos, zero-mul, mul-one, lt_irrefl, le-div_iff_mul-le, div-lt_iff_lt-mul}
use native.Mathlib.Omega.{arith}
use borrow.Author.Tests.{ltb-true, ltb-false, leb-true, leb-false, eqb-true, eqb-false, le-leb, lt-leb, eq-eqb, ne_eqb}
use lib.Dec.{T, leb, ltb, eqb}
use lib.Signed.{non_neg}
use lib.IntN.{ℤ, pos, negsuc, nat_abs}
use Rattle.std.specs.Prelude.{Option, Some, None}
use lib.Ieee.{Float, nan, inf, fin, up, down, lt, le, to_unsigned}
use lib.Ieee.Exact.{HasValue}
use lib.Ieee.Fits.{down_pos}
use lib.Ieee.Positive.{first_pos}
use Rattle.floats.specs.Number.{num}
use Rattle.limits.proofs.Samples.{and_left, and_right}
use Rattle.rates.proofs.Near.{int_value}
use Rattle.rates.proofs.Values.{same_ltb, same_leb, lt-values, le-values}
use Rattle.subscription.specs.Charges.{day_s, days, midnight, between, latest_start, start_ok}
use Rattle.subscription.specs.Counting.{day_at, day_in, second_of}

-- ---- a time compares with whole seconds as its whole part does

record Whole (x : Float) (s : ℕ) : Type 0 where
  at_or_after : (n : ℕ) → n ≤ 2 ^ 53 → le (num n) x ≡ leb n s
  before : (n : ℕ) → n ≤ 2 ^ 53 → lt x (num n) ≡ ltb s n

-- of a / c
module _ (x : Float) (a c : ℕ) (C : 0 < c) (v : HasValue x false a c) where
  part_from : (n : ℕ) → n ≤ 2 ^ 53 → le (num n) x ≡ leb n (a / c)
  part_from n h =
      le-values (num n) x n 1 a c (omega arith) C (int_value n h) v
      ∙ same_leb (n * c) (a * 1) n (a / c) (λ k. subst (λ (z : ℕ). n * c ≤ z) (sym (mul-one a)) ((le-div_iff_mul-le C).0 k))
      (λ k. subst (λ (z : ℕ). z < n * c) (sym (mul-one a)) ((div-lt_iff_lt-mul C).0 k))

  part_to : (n : ℕ) → n ≤ 2 ^ 53 → lt x (num n) ≡ ltb (a / c) n
  part_to n h =
      lt-values x (num n) a c n 1 C (omega arith) v (int_value n h)
      ∙ same_ltb (a * 1) (n * c) (a / c) n (λ k. subst (λ (z : ℕ). z < n * c) (sym (mul-one a)) ((div-lt_iff_lt-mul C).0 k))
      (λ k. subst (λ (z : ℕ). n * c ≤ z) (sym (mul-one a)) ((le-div_iff_mul-le C).0 k))

-- ---- a zero with a sign

zero_of : (a b : ℕ) → 0 < b → a * b ≡ 0 → a ≡ 0
zero_of zero b h e = refl
zero_of (suc a) b h e = absurd (lt_irrefl 0 (subst (λ (z : ℕ). 0 < z) e (mul-pos {m = suc a} (omega arith) h)))

-- what is not below 0 is at most a negative number only where that is 0
zero_in : (y : Float) (n m : ℕ) (e : ℤ) → HasValue y false n 1 → le y (fin true m e) ≡ true → m * up e ≡ 0
unfolding le
zero_in nan n m e h p = absurd h
zero_in (inf s) n m e h p = absurd h
zero_in (fin true k d) n m e h p = absurd (true≢false h.0)
zero_in (fin false k d) n m e h p =
    let x = k * up d * down e in
    let y = m * up e * down d in
    let q : x ≡ y = eqb-true x y (and_left (eqb x y) (eqb x 0) p) in
    let z : x ≡ 0 = eqb-true x 0 (and_right (eqb x y) (eqb x 0) p) in
    zero_of (m * up e) (down d) (down_pos d) (sym q ∙ z)

both : (x : ℕ) → (eqb x 0 && eqb x 0) ≡ leb x 0
both x = go (eqb x 0) refl
  where
    go : (t : Bool) → eqb x 0 ≡ t → (t && t) ≡ leb x 0
    go true e = sym (le-leb x 0 (omega (arith, eqb-true x 0 e)))
    go false e = sym (lt-leb x 0 (pos_of_ne-zero (eqb-false x 0 e)))

-- the size of a float above 0
module _ (k n : ℕ) (d e : ℤ) (h : k * up d * 1 ≡ n * down d) where
  size-zero : n ≡ 0 → k * up d * down e ≡ 0
  size-zero z = ap (λ (x : ℕ). x * down e) (sym (mul-one (k * up d)) ∙ h ∙ ap (λ (x : ℕ). x * down d) z ∙ zero-mul (down d)) ∙ zero-mul (down e)

  size-pos : 0 < n → 0 < k * up d * down e
  size-pos p = mul-pos (first_pos (k * up d) 1 (subst (λ (x : ℕ). 0 < x) (sym h) (mul-pos p (down_pos d)))) (down_pos e)

  size-leb : leb (k * up d * down e) 0 ≡ leb n 0
  size-leb = same_leb (k * up d * down e) 0 n 0 (λ q. omega (arith, size-zero (omega arith))) (λ q. size-pos q)

  size-ltb : ltb 0 (0 + k * up d * down e) ≡ ltb 0 n
  size-ltb = same_ltb 0 (0 + k * up d * down e) 0 n (λ q. omega (arith, size-pos q)) (λ q. omega (arith, size-zero (omega arith)))

zero_from : (y : Float) (n m : ℕ) (e : ℤ) → HasValue y false n 1 → m * up e ≡ 0 → le y (fin true m e) ≡ leb n 0
unfolding le
zero_from nan n m e h z = absurd h
zero_from (inf s) n m e h z = absurd h
zero_from (fin true k d) n m e h z = absurd (true≢false h.0)
zero_from (fin false k d) n m e h z =
    ap (λ (b : ℕ). eqb (k * up d * down e) b && eqb (k * up d * down e) 0) (ap (λ (x : ℕ). x * down d) z ∙ zero-mul (down d))
    ∙ both (k * up d * down e) ∙ size-leb k n d e h.1

zero_to : (y : Float) (n m : ℕ) (e : ℤ) → HasValue y false n 1 → m * up e ≡ 0 → lt (fin true m e) y ≡ ltb 0 n
unfolding lt
zero_to nan n m e h z = absurd h
zero_to (inf s) n m e h z = absurd h
zero_to (fin true k d) n m e h z = absurd (true≢false h.0)
zero_to (fin false k d) n m e h z =
    ap (λ (b : ℕ). ltb 0 (b + k * up d * down e)) (ap (λ (x : ℕ). x * down d) z ∙ zero-mul (down d)) ∙ size-ltb k n d e h.1

-- ---- no number, and beyond all numbers

not_nan : (y : Float) (n : ℕ) → HasValue y false n 1 → le y nan ≡ false
unfolding le
not_nan nan n h = absurd h
not_nan (inf s) n h = absurd h
not_nan (fin s m e) n h = refl

not_under : (y : Float) (n : ℕ) → HasValue y false n 1 → le y (inf true) ≡ false
unfolding le
not_under nan n h = absurd h
not_under (inf s) n h = absurd h
not_under (fin s m e) n h = refl

not_over : (y : Float) (n : ℕ) → HasValue y false n 1 → lt (inf false) y ≡ false
unfolding lt
not_over nan n h = absurd h
not_over (inf s) n h = absurd h
not_over (fin s m e) n h = refl

uncapped : (q b : ℕ) → q < b → b ≤ 2 ^ 53 → min q (2 ^ 64 - 1) ≡ q
uncapped q b h k = omega arith

-- a time between two whole numbers
whole_part : (x : Float) (a b : ℕ) → a ≤ 2 ^ 53 → b ≤ 2 ^ 53 → le (num a) x ≡ true → lt x (num b) ≡ true → Whole x (to_unsigned 64 x)
unfolding to_unsigned
whole_part nan a b A B p q = absurd (true≢false (sym p ∙ not_nan (num a) a (int_value a A)))
whole_part (inf true) a b A B p q = absurd (true≢false (sym p ∙ not_under (num a) a (int_value a A)))
whole_part (inf false) a b A B p q = absurd (true≢false (sym q ∙ not_over (num b) b (int_value b B)))
whole_part (fin true m e) a b A B p q =
    let z = zero_in (num a) a m e (int_value a A) p in
    record { at_or_after = λ n h. zero_from (num n) n m e (int_value n h) z; before = λ n h. zero_to (num n) n m e (int_value n h) z }
whole_part (fin false m e) a b A B p q =
    let x = fin false m e in
    let w = m * up e / down e in
    let u : w < b = ltb-true w b (sym (part_to x (m * up e) (down e) (down_pos e) (refl, refl) b B) ∙ q) in
    let c : w ≡ min w (2 ^ 64 - 1) = sym (uncapped w b u B) in
    record {
      at_or_after = λ n h. part_from x (m * up e) (down e) (down_pos e) (refl, refl) n h ∙ ap (leb n) c;
      before = λ n h. part_to x (m * up e) (down e) (down_pos e) (refl, refl) n h ∙ ap (λ (s : ℕ). ltb s n) c;
    }

-- ---- the day

-- as the code tests it
pub between_is : (start : ℕ) (t first end : Float) → first ≡ num start → end ≡ num (start + day_s * days) → (le first t && lt t end) ≡ between start 0 days t
between_is start t first end e g =
    ap (λ (x : Float). le x t && lt t end) (e ∙ ap num (none start)) ∙ ap (λ (x : Float). le (midnight start 0) t && lt t x) g
  where
    none : (n : ℕ) → n ≡ n + 86400 * 0
    none n = omega arith

module _ (start : ℕ) (t : Float) (few : start ≤ latest_start) where
  pub outside : between start 0 days t ≡ false → day_at start t ≡ days
  unfolding day_at
  outside e = rw e refl

  module _ (e : between start 0 days t ≡ true) where
    abbrev s : ℕ
    s = to_unsigned 64 t

    from_first : le (midnight start 0) t ≡ true
    from_first = and_left (le (midnight start 0) t) (lt t (midnight start days)) e

    to_last : lt t (midnight start days) ≡ true
    to_last = and_right (le (midnight start 0) t) (lt t (midnight start days)) e

    whole : Whole t s
    whole = whole_part t (start + day_s * 0) (start + day_s * days) (omega arith) (omega arith) from_first to_last

    pub begun : start ≤ s
    begun = omega (arith, leb-true (start + day_s * 0) s (sym (whole.at_or_after (start + day_s * 0) (omega arith)) ∙ from_first))

    open-yet : s < start + day_s * days
    open-yet = ltb-true s (start + day_s * days) (sym (whole.before (start + day_s * days) (omega arith)) ∙ to_last)

    pub day-is : day_at start t ≡ (s - start) / day_s
    unfolding day_at
    day-is = rw e refl

    pub day-under : day_at start t < days
    day-under = omega (arith, day-is, begun, open-yet)

    -- it is on that day and on no other
    pub only-day : (k : ℕ) → k < days → between start k (suc k) t ≡ eqb k (day_at start t)
    only-day k h =
        ap (λ (b : Bool). b && lt t (midnight start (suc k))) (whole.at_or_after (start + day_s * k) (omega arith))
        ∙ ap (λ (b : Bool). leb (start + day_s * k) s && b) (whole.before (start + day_s * suc k) (omega arith))
        ∙ go start s k begun ∙ ap (eqb k) (sym day-is)
      where
        go : (start s k : ℕ) → start ≤ s → (leb (start + 86400 * k) s && ltb s (start + 86400 * suc k)) ≡ eqb k ((s - start) / 86400)
        go start s k b = cases (leb (start + 86400 * k) s) (ltb s (start + 86400 * suc k)) refl refl
          where
            cases : (p q : Bool) → leb (start + 86400 * k) s ≡ p → ltb s (start + 86400 * suc k) ≡ q → (p && q) ≡ eqb k ((s - start) / 86400)
            cases true true e f = sym (eq-eqb k ((s - start) / 86400) (omega (arith, leb-true (start + 86400 * k) s e, ltb-true s (start + 86400 * suc k) f)))
            cases true false e f = sym (ne_eqb k ((s - start) / 86400) (λ g. omega (arith, ltb-false s (start + 86400 * suc k) f)))
            cases false q e f = sym (ne_eqb k ((s - start) / 86400) (λ g. omega (arith, leb-false (start + 86400 * k) s e)))

  -- so a day is inside the month or none
  pub none_outside : None ≡ day_in start t → between start 0 days t ≡ false
  none_outside e = go (between start 0 days t) refl e
    where
      go : (b : Bool) → between start 0 days t ≡ b → ◌≡◌ {A = Option ℕ} None (cond b (Some (day_at start t)) None) → b ≡ false
      go false f g = refl
      go true f g = cc

  pub some_inside : (d : ℕ) → Some d ≡ day_in start t → (between start 0 days t ≡ true) × (d ≡ day_at start t)
  some_inside d e = go (between start 0 days t) e
    where
      is : (n m : ℕ) → Some n ≡ Some m → n ≡ m
      is n m f = cc

      go : (b : Bool) → Some d ≡ cond b (Some (day_at start t)) None → (b ≡ true) × (d ≡ day_at start t)
      go true g = (refl, is d (day_at start t) g)
      go false g = cc

  pub day_most : day_at start t ≤ days
  day_most = go (between start 0 days t) refl
    where
      go : (b : Bool) → between start 0 days t ≡ b → day_at start t ≤ days
      go true f = omega (arith, day-under f)
      go false f = omega (arith, outside f)

-- ---- the month's start

pub second_is : (z : ℤ) → start_ok z ≡ true → T (non_neg z) × (nat_abs z ≡ second_of z) × (nat_abs z ≤ latest_start)
second_is (pos n) e =
    (tt, ap (λ (b : Bool). cond b n 0) (sym e), leb-true n latest_start (and_right (leb 0 n) (leb n latest_start) e))
second_is (negsuc n) e = absurd (true≢false (sym e))

pub second_none : (z : ℤ) → start_ok z ≡ false → (0 ≡ second_of z) × (0 ≤ latest_start)
second_none z e = (ap (λ (b : Bool). cond b (nat_abs z) 0) (sym e), omega arith)
