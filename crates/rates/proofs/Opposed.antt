-- The sum of two values of opposite signs, the second the larger. Assumes nothing.
use mathlib.Core.Path.{◌≡◌, refl, sym, ap, ◌∙◌}
use mathlib.Core.Bool.{Bool, true, false, not, cond, true≢false}
use Prim.Native.Nat.{ℕ, ◌-◌, ◌*◌, ◌<◌}
use native.Mathlib.Nat.{mul-pos, mul_assoc, mul_comm, mul_right_comm, mul-sub, mul-lt-mul_of_pos_right}
use borrow.Author.Tests.{lt-ltb}
use lib.Dec.{ltb}
use lib.Ieee.{Float, nan, inf, fin, Format, up, down, round, add, sub, sum, neg}
use lib.Ieee.Fits.{down_pos}
use lib.Ieee.Exact.{HasValue}
use lib.Ieee.Order.{transfer}
use lib.Ieee.Scale.{round_same}
use Rattle.rates.proofs.Values.{flip}

module _ (f : Format) where
  -- ±x / de with the other sign's y / dd, where x / de = a / l is below y / dd = b / l
  core : (t : Bool) (x de y dd a b l : ℕ) (other : Float) → 0 < de → 0 < dd → 0 < l → a < b → x * l ≡ a * de → y * l ≡ b * dd
      → cond (ltb (x * dd) (y * de)) (round f t (y * de - x * dd) (de * dd)) other ≡ round f t (b - a) l
  core t x de y dd a b l other E D L o p q =
      let h : x * dd < y * de = flip (x * dd) (y * de) (a * l) (b * l) (transfer b a l l y x dd de D E (sym q) (sym p)) (mul-lt-mul_of_pos_right o L) in
      rw (lt-ltb (x * dd) (y * de) h) (round_same f t (y * de - x * dd) (de * dd) (b - a) l (mul-pos E D) L cross)
    where
      cross : (y * de - x * dd) * l ≡ (b - a) * (de * dd)
      cross =
          mul_comm (y * de - x * dd) l ∙ mul-sub l (y * de) (x * dd)
          ∙ ap (λ (z : ℕ). z - l * (x * dd)) (mul_comm l (y * de) ∙ mul_right_comm y de l ∙ ap (λ (z : ℕ). z * de) q ∙ mul_assoc b dd de ∙ ap (λ (z : ℕ). b * z) (mul_comm dd de) ∙ mul_comm b (de * dd))
          ∙ ap (λ (z : ℕ). de * dd * b - z) (mul_comm l (x * dd) ∙ mul_right_comm x dd l ∙ ap (λ (z : ℕ). z * dd) p ∙ mul_assoc a de dd ∙ mul_comm a (de * dd))
          ∙ sym (mul_comm (b - a) (de * dd) ∙ mul-sub (de * dd) b a)

  pub opposed : (s : Bool) (x y : Float) (a b l : ℕ) → 0 < l → a < b → HasValue x s a l → HasValue y (not s) b l → add f x y ≡ round f (not s) (b - a) l
  unfolding add sum
  opposed s nan y a b l L o h k = absurd h
  opposed s (inf t) y a b l L o h k = absurd h
  opposed s (fin t m e) nan a b l L o h k = absurd k
  opposed s (fin t m e) (inf u) a b l L o h k = absurd k
  opposed false (fin true m e) (fin u n d) a b l L o h k = absurd (true≢false h.0)
  opposed false (fin false m e) (fin false n d) a b l L o h k = absurd (true≢false (sym k.0))
  opposed false (fin false m e) (fin true n d) a b l L o h k = core true (m * up e) (down e) (n * up d) (down d) a b l _ (down_pos e) (down_pos d) L o h.1 k.1
  opposed true (fin false m e) (fin u n d) a b l L o h k = absurd (true≢false (sym h.0))
  opposed true (fin true m e) (fin true n d) a b l L o h k = absurd (true≢false k.0)
  opposed true (fin true m e) (fin false n d) a b l L o h k = core false (m * up e) (down e) (n * up d) (down d) a b l _ (down_pos e) (down_pos d) L o h.1 k.1

  negated : (y : Float) (b l : ℕ) → HasValue y false b l → HasValue (neg y) true b l
  unfolding neg
  negated nan b l h = absurd h
  negated (inf s) b l h = absurd h
  negated (fin true m e) b l h = absurd (true≢false h.0)
  negated (fin false m e) b l h = (refl, h.1)

  -- a - b, where b is the larger
  pub sub_under : (x y : Float) (a b l : ℕ) → 0 < l → a < b → HasValue x false a l → HasValue y false b l → sub f x y ≡ round f true (b - a) l
  unfolding sub
  sub_under x y a b l L o h k = opposed false x (neg y) a b l L o h (negated y b l k)
