-- Finite floats compare as whole numbers do: of three, each is told by how many of the others lie under it. Assumes nothing.
use mathlib.Core.Path.{◌≡◌, refl, sym, ap, ◌∙◌}
use mathlib.Core.Bool.{Bool, true, false, ◌&&◌, ◌||◌, cond, true≢false}
use Prim.Native.Nat.{ℕ, ◌+◌, ◌*◌, ◌≤◌, ◌<◌}
use native.Mathlib.Nat.{add_comm}
use native.Mathlib.Omega.{arith}
use borrow.Author.Tests.{ltb-true, ltb-false, lt-ltb, le-ltb, eqb-true, eq-eqb, ne_eqb}
use lib.Dec.{ltb, eqb}
use lib.Ieee.{Float, nan, inf, fin, up, down, below, level, lt, eq, le}
use Rattle.floats.proofs.OrderLaws.{le-chain}
use Rattle.grip.specs.Times.{is_finite}

-- ---- cases

pub cases : {X : Type 0} (t : Bool) → (t ≡ true → X) → (t ≡ false → X) → X
cases true f g = f refl
cases false f g = g refl

pub clash : {X : Type 0} (t : Bool) → t ≡ true → t ≡ false → X
clash t p q = absurd (true≢false (sym p ∙ q))

pub three : {X : Type 0} (a b : ℕ) → (a < b → X) → (a ≡ b → X) → (b < a → X) → X
three a b f g h =
    cases (ltb a b) (λ p. f (ltb-true a b p))
    (λ p. cases (ltb b a) (λ q. h (ltb-true b a q)) (λ q. g (same (ltb-false a b p) (ltb-false b a q))))
  where
    same : b ≤ a → a ≤ b → a ≡ b
    same u v = omega arith

-- ---- two finite floats: one is under the other, or the two are equal, and no two of these

abbrev count : Bool → ℕ
count t = cond t 1 0

-- of a and b
plain : (a b : ℕ) → count (ltb a b) + count (ltb b a) + count (eqb a b && true) ≡ 1
plain a b =
    three a b
    (λ h. rw (lt-ltb a b h, le-ltb b a (omega arith), ne_eqb a b (λ e. omega arith)) refl)
    (λ h. rw (le-ltb a b (omega arith), le-ltb b a (omega arith), eq-eqb a b h) refl)
    (λ h. rw (le-ltb a b (omega arith), lt-ltb b a h, ne_eqb a b (λ e. omega arith)) refl)

-- of two with signs that differ: they are equal where both are 0
mixed : (a b : ℕ) → count (ltb 0 (a + b)) + count (eqb a b && eqb a 0) ≡ 1
mixed a b =
    three 0 (a + b)
    (λ h. cases (eqb a b)
    (λ e. rw (lt-ltb 0 (a + b) h, e, ne_eqb a 0 (λ z. absurd (omega (arith, eqb-true a b e)))) refl)
    (λ e. rw (lt-ltb 0 (a + b) h, e) refl))
    (λ h. rw (le-ltb 0 (a + b) (omega arith), eq-eqb a b (omega arith), eq-eqb a 0 (omega arith)) refl)
    (λ h. absurd (omega arith))

-- of ±a and ±b
signed : (s t : Bool) (a b : ℕ) → count (below s a t b) + count (below t b s a) + count (level s a t b) ≡ 1
signed false false a b = plain a b
signed true true a b = omega (arith, plain a b)
signed false true a b = omega (arith, mixed a b, ap (λ (n : ℕ). count (ltb 0 n)) (add_comm a b))
signed true false a b = omega (arith, mixed a b)

-- 1 where x is under y
abbrev under : Float → Float → ℕ
under x y = count (lt x y)

exact : (x y : Float) → is_finite x ≡ true → is_finite y ≡ true → under x y + under y x + count (eq x y) ≡ 1
unfolding is_finite lt eq
exact nan y X Y = clash false X refl
exact (inf s) y X Y = clash false X refl
exact (fin s f e) nan X Y = clash false Y refl
exact (fin s f e) (inf t) X Y = clash false Y refl
exact (fin s f e) (fin t g d) X Y = signed s t (f * up e * down d) (g * up d * down e)

module _ (x y : Float) (X : is_finite x ≡ true) (Y : is_finite y ≡ true) where
  -- x is not over y where y is not under it
  le_is : count (le x y) + under y x ≡ 1
  unfolding le
  le_is = go (lt x y) (lt y x) (eq x y) (exact x y X Y)
    where
      go : (p q r : Bool) → count p + count q + count r ≡ 1 → count (p || r) + count q ≡ 1
      go true q r h = omega arith
      go false q r h = omega arith

-- ---- three

module _ (x y z : Float) (X : is_finite x ≡ true) (Y : is_finite y ≡ true) (Z : is_finite z ≡ true) where
  -- what is under another is under a third, or that is under the other
  between : under z x ≤ under z y + under y x
  between = go (le x y) (le y z) (le x z) (le-chain x y z) (le_is x y X Y) (le_is y z Y Z) (le_is x z X Z)
    where
      go : (p q r : Bool) → (p ≡ true → q ≡ true → r ≡ true) → count p + under y x ≡ 1 → count q + under z y ≡ 1 → count r + under z x ≡ 1
          → under z x ≤ under z y + under y x
      go p q true f a b c = omega arith
      go false q false f a b c = omega arith
      go true false false f a b c = omega arith
      go true true false f a b c = clash false (f refl refl) refl

-- two floats compare as two numbers
pub record Alike (x y : Float) (a b : ℕ) : Type 0 where
  pub less : lt x y ≡ ltb a b
  pub equal : eq x y ≡ eqb a b

-- three floats, as numbers
pub record Numbers (x y z : Float) : Type 0 where
  pub a : ℕ
  pub b : ℕ
  pub c : ℕ
  pub ab : Alike x y a b
  pub ba : Alike y x b a
  pub bc : Alike y z b c
  pub ac : Alike x z a c

-- x and y, of which a and b of the three are over
module _ (x y z : Float) (X : is_finite x ≡ true) (Y : is_finite y ≡ true) (Z : is_finite z ≡ true) (a b : ℕ) (A : a ≡ under y x + under z x) (B : b ≡ under x y + under z y) where
  alike : Alike x y a b
  alike =
      let e = go (lt x y) (lt y x) (eq x y) (under z x) (under z y) (exact x y X Y) A B (between x y z X Y Z) (between y x z Y X Z) in
      record { less = e.0; equal = e.1 }
    where
      go : (t w r : Bool) (m n : ℕ) → count t + count w + count r ≡ 1 → a ≡ count w + m → b ≡ count t + n → m ≤ n + count w → n ≤ m + count t
          → (t ≡ ltb a b) × (r ≡ eqb a b)
      go true false false m n h p q u v = (sym (lt-ltb a b (omega arith)), sym (ne_eqb a b (λ z. omega arith)))
      go false true false m n h p q u v = (sym (le-ltb a b (omega arith)), sym (ne_eqb a b (λ z. omega arith)))
      go false false true m n h p q u v = (sym (le-ltb a b (omega arith)), sym (eq-eqb a b (omega arith)))
      go false false false m n h p q u v = absurd (omega arith)
      go true true r m n h p q u v = absurd (omega arith)
      go true false true m n h p q u v = absurd (omega arith)
      go false true true m n h p q u v = absurd (omega arith)

pub numbers : (x y z : Float) → is_finite x ≡ true → is_finite y ≡ true → is_finite z ≡ true → Numbers x y z
numbers x y z X Y Z =
    let a = under y x + under z x in
    let b = under x y + under z y in
    let c = under x z + under y z in
    record {
      a = a;
      b = b;
      c = c;
      ab = alike x y z X Y Z a b refl refl;
      ba = alike y x z Y X Z b a refl refl;
      bc = alike y z x Y Z X b c (add_comm (under x y) (under z y)) (add_comm (under x z) (under y z));
      ac = alike x z y X Z Y a c (add_comm (under y x) (under z x)) refl;
    }
