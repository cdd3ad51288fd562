-- The test of a window is the walk through it, minute by minute. Assumes nothing.
use mathlib.Core.Path.{◌≡◌, refl, sym, ◌∙◌}
use mathlib.Core.Bool.{Bool, true, false, ◌&&◌, ◌||◌, cond}
use mathlib.Core.List.{List, [], ◌∷◌}
use Prim.Native.Nat.{ℕ, zero, suc, ◌+◌, ◌-◌, ◌%◌, ◌≤◌, ◌<◌}
use native.Mathlib.Omega.{arith}
use borrow.Author.Tests.{ltb-true, ltb-false, leb-true, leb-false, eqb-true, eqb-false, lt-ltb, le-ltb}
use lib.Dec.{eqb, leb, ltb}
use Rattle.limits.proofs.Samples.{and_left, and_right}
use Rattle.std.specs.List.{list_all, list_any}
use Rattle.shifts.specs.Shifts.{week_min, window_ok, windows_ok, minute_at, holds}
use Rattle.shifts.specs.Walk.{next, meets, walked}
use Rattle.shifts.specs.declared.Window.{Window}

-- from a to m, and how long a walk from a to e is
abbrev way : ℕ → ℕ → ℕ
way a m = (m + week_min - a) % week_min

abbrev long : ℕ → ℕ → ℕ
long a e = (e + 10079 - a) % week_min + 1

same_test : (a b c d : ℕ) → a + d ≡ c + b → ltb a b ≡ ltb c d
same_test a b c d h = go (ltb a b) (ltb-true a b) (ltb-false a b)
  where
    go : (p : Bool) → (p ≡ true → a < b) → (p ≡ false → b ≤ a) → p ≡ ltb c d
    go true f g = let l : a < b = f refl in sym (lt-ltb c d (omega arith))
    go false f g = let l : b ≤ a = g refl in sym (le-ltb c d (omega arith))

way_on : (m a : ℕ) → a < week_min → m < week_min → (a ≡ m → ⊥) → way (next a) m + 1 ≡ way a m
way_on m a ha hm s = omega arith

long_on : (a e : ℕ) → a < week_min → e < week_min → (next a ≡ e → ⊥) → long (next a) e + 1 ≡ long a e
long_on a e ha he s = omega arith

cross : (x y u v : ℕ) → x + 1 ≡ y → u + 1 ≡ v → x + v ≡ y + u
cross x y u v h k = omega arith

-- one minute of the walk
step : (m a e : ℕ) (p q r : Bool) → eqb a m ≡ p → eqb (next a) e ≡ q → a < week_min → m < week_min → e < week_min
    → (q ≡ false → r ≡ ltb (way (next a) m) (long (next a) e)) → p || cond q false r ≡ ltb (way a m) (long a e)
step m a e true q r i j ha hm he k = let s : a ≡ m = eqb-true a m i in sym (lt-ltb (way a m) (long a e) (omega arith))
step m a e false true r i j ha hm he k =
    let s : (a ≡ m → ⊥) = eqb-false a m i in
    let t : next a ≡ e = eqb-true (next a) e j in
    sym (le-ltb (way a m) (long a e) (omega arith))
step m a e false false r i j ha hm he k =
    k refl
    ∙ same_test (way (next a) m) (long (next a) e) (way a m) (long a e)
    (cross (way (next a) m) (way a m) (long (next a) e) (long a e) (way_on m a ha hm (eqb-false a m i)) (long_on a e ha he (eqb-false (next a) e j)))

pub meets_is : (n m a e : ℕ) → a < week_min → m < week_min → e < week_min → long a e ≤ n → meets n m a e ≡ ltb (way a m) (long a e)
unfolding meets
meets_is zero m a e ha hm he h = absurd (omega arith)
meets_is (suc n) m a e ha hm he h =
    step m a e (eqb a m) (eqb (next a) e) (meets n m (next a) e) refl refl ha hm he
    (λ q. let t : (next a ≡ e → ⊥) = eqb-false (next a) e q in meets_is n m (next a) e (omega arith) hm he (omega arith))

test : (m a e : ℕ) (p q r s : Bool) → eqb a e ≡ p → ltb a e ≡ q → leb a m ≡ r → ltb m e ≡ s → a < week_min → m < week_min → e < week_min
    → cond p true (cond q (r && s) (r || s)) ≡ ltb (way a m) (long a e)
test m a e true q r s i j k l ha hm he = let x : a ≡ e = eqb-true a e i in sym (lt-ltb (way a m) (long a e) (omega arith))
test m a e false true true true i j k l ha hm he =
    sym (lt-ltb (way a m) (long a e) (omega (arith, eqb-false a e i, ltb-true a e j, leb-true a m k, ltb-true m e l)))
test m a e false true true false i j k l ha hm he =
    sym (le-ltb (way a m) (long a e) (omega (arith, eqb-false a e i, ltb-true a e j, leb-true a m k, ltb-false m e l)))
test m a e false true false s i j k l ha hm he =
    sym (le-ltb (way a m) (long a e) (omega (arith, eqb-false a e i, ltb-true a e j, leb-false a m k)))
test m a e false false true s i j k l ha hm he =
    sym (lt-ltb (way a m) (long a e) (omega (arith, eqb-false a e i, ltb-false a e j, leb-true a m k)))
test m a e false false false true i j k l ha hm he =
    sym (lt-ltb (way a m) (long a e) (omega (arith, eqb-false a e i, ltb-false a e j, leb-false a m k, ltb-true m e l)))
test m a e false false false false i j k l ha hm he =
    sym (le-ltb (way a m) (long a e) (omega (arith, eqb-false a e i, ltb-false a e j, leb-false a m k, ltb-false m e l)))

-- every window that is accepted, every minute of the week
pub as_walked : (m : ℕ) (w : Window) → m < week_min → w.start < week_min → w.end < week_min → holds m w ≡ walked m w
unfolding holds
as_walked m w hm ha he =
    test m w.start w.end (eqb w.start w.end) (ltb w.start w.end) (leb w.start m) (ltb m w.end) refl refl refl refl ha hm he
    ∙ sym (meets_is week_min m w.start w.end ha hm he (omega arith))

-- so is the test of all windows of a call that is not refused
pub all_walked : (m : ℕ) (l : List Window) → m < week_min → windows_ok l ≡ true → list_any (holds m) l ≡ list_any (walked m) l
all_walked m [] hm e = refl
all_walked m (w ∷ l) hm e =
    let h = and_left (window_ok w) (list_all window_ok l) e in
    rw (
      as_walked m w hm (ltb-true w.start week_min (and_left (ltb w.start week_min) (ltb w.end week_min) h)) (ltb-true w.end week_min (and_right (ltb w.start week_min) (ltb w.end week_min) h)),
      all_walked m l hm (and_right (window_ok w) (list_all window_ok l) e),
    ) refl

-- a mark looks at a minute of the week
pub in_week : (start t : ℕ) → minute_at start t < week_min
in_week start t = omega arith
