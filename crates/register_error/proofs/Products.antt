-- Products and quotients of floats that are not negative, by any fractions that they equal, and of one of them with its sign turned. Assumes nothing.
use mathlib.Core.Path.{◌≡◌, sym, ap, ◌∙◌, subst}
use mathlib.Core.Bool.{Bool, true, false, cond, true≢false}
use Prim.Native.Nat.{ℕ, zero, suc, ◌*◌, ◌<◌}
use native.Mathlib.Nat.{mul_comm, mul-pos, mul-mul-mul_comm, zero-lt-suc, zero-mul, lt_irrefl}
use lib.Dec.{eqb, eqb-suc-zero}
use lib.Ieee.{Float, nan, inf, fin, binary64, up, down, round, mul, div, neg}
use lib.Ieee.Fits.{up_pos, down_pos}
use lib.Ieee.Exact.{HasValue}
use lib.Ieee.Scale.{round_same}
use Rattle.floats.proofs.Floors.{neg_round}

-- a value above zero has a significand above zero
some : (u c b d : ℕ) → 0 < b → 0 < d → 0 * u * c ≡ b * d → ⊥
some u c b d B D e = lt_irrefl 0 (subst (λ (n : ℕ). 0 < n) (sym e ∙ ap (λ (n : ℕ). n * c) (zero-mul u) ∙ zero-mul c) (mul-pos B D))

module _ (x y : Float) (a c b d : ℕ) (C : 0 < c) (D : 0 < d) where
  pub mul-values : HasValue x false a c → HasValue y false b d → mul binary64 x y ≡ round binary64 false (a * b) (c * d)
  unfolding mul
  mul-values h k = go x y h k
    where
      go : (x y : Float) → HasValue x false a c → HasValue y false b d → mul binary64 x y ≡ round binary64 false (a * b) (c * d)
      go nan y h k = absurd h
      go (inf s) y h k = absurd h
      go (fin true m e) y h k = absurd (true≢false h.0)
      go (fin false m e) nan h k = absurd k
      go (fin false m e) (inf t) h k = absurd k
      go (fin false m e) (fin true n g) h k = absurd (true≢false k.0)
      go (fin false m e) (fin false n g) h k =
          round_same binary64 false (m * up e * (n * up g)) (down e * down g) (a * b) (c * d) (mul-pos (down_pos e) (down_pos g)) (mul-pos C D)
          (mul-mul-mul_comm (m * up e) (n * up g) c d ∙ ap (λ (z : ℕ). z * (n * up g * d)) h.1 ∙ ap (λ (z : ℕ). a * down e * z) k.1 ∙ mul-mul-mul_comm a (down e) b (down g))

  pub div-values : 0 < b → HasValue x false a c → HasValue y false b d → div binary64 x y ≡ round binary64 false (a * d) (c * b)
  unfolding div
  div-values B h k = go x y h k
    where
      go : (x y : Float) → HasValue x false a c → HasValue y false b d → div binary64 x y ≡ round binary64 false (a * d) (c * b)
      go nan y h k = absurd h
      go (inf s) y h k = absurd h
      go (fin true m e) y h k = absurd (true≢false h.0)
      go (fin false m e) nan h k = absurd k
      go (fin false m e) (inf t) h k = absurd k
      go (fin false m e) (fin true n g) h k = absurd (true≢false k.0)
      go (fin false m e) (fin false zero g) h k = absurd (some (up g) d b (down g) B (down_pos g) k.1)
      go (fin false m e) (fin false (suc n) g) h k =
          ap (λ (t : Bool). cond t (cond (eqb m 0) nan (inf false)) (round binary64 false (m * up e * down g) (suc n * up g * down e))) (eqb-suc-zero n)
          ∙ round_same binary64 false (m * up e * down g) (suc n * up g * down e) (a * d) (c * b) (mul-pos (mul-pos (zero-lt-suc n) (up_pos g)) (down_pos e)) (mul-pos C B)
          (cross (m * up e) (down g) (suc n * up g) (down e) h.1 k.1)
        where
          cross : (X G Y E : ℕ) → X * c ≡ a * E → Y * d ≡ b * G → X * G * (c * b) ≡ a * d * (Y * E)
          cross X G Y E p q =
              mul-mul-mul_comm X G c b ∙ ap (λ (z : ℕ). z * (G * b)) p ∙ ap (λ (z : ℕ). a * E * z) (mul_comm G b ∙ sym q)
              ∙ ap (λ (z : ℕ). a * E * z) (mul_comm Y d) ∙ mul-mul-mul_comm a E d Y ∙ ap (λ (z : ℕ). a * d * z) (mul_comm E Y)

  -- the sign of the first turned
  pub neg-mul : HasValue x false a c → HasValue y false b d → mul binary64 (neg x) y ≡ neg (mul binary64 x y)
  unfolding mul neg
  neg-mul h k = go x y h k
    where
      go : (x y : Float) → HasValue x false a c → HasValue y false b d → mul binary64 (neg x) y ≡ neg (mul binary64 x y)
      go nan y h k = absurd h
      go (inf s) y h k = absurd h
      go (fin true m e) y h k = absurd (true≢false h.0)
      go (fin false m e) nan h k = absurd k
      go (fin false m e) (inf t) h k = absurd k
      go (fin false m e) (fin true n g) h k = absurd (true≢false k.0)
      go (fin false m e) (fin false n g) h k = sym (neg_round (m * up e * (n * up g)) (down e * down g))

  pub neg-div : 0 < b → HasValue x false a c → HasValue y false b d → div binary64 (neg x) y ≡ neg (div binary64 x y)
  unfolding div neg
  neg-div B h k = go x y h k
    where
      go : (x y : Float) → HasValue x false a c → HasValue y false b d → div binary64 (neg x) y ≡ neg (div binary64 x y)
      go nan y h k = absurd h
      go (inf s) y h k = absurd h
      go (fin true m e) y h k = absurd (true≢false h.0)
      go (fin false m e) nan h k = absurd k
      go (fin false m e) (inf t) h k = absurd k
      go (fin false m e) (fin true n g) h k = absurd (true≢false k.0)
      go (fin false m e) (fin false zero g) h k = absurd (some (up g) d b (down g) B (down_pos g) k.1)
      go (fin false m e) (fin false (suc n) g) h k =
          ap (λ (t : Bool). cond t (cond (eqb m 0) nan (inf true)) (round binary64 true (m * up e * down g) (suc n * up g * down e))) (eqb-suc-zero n)
          ∙ sym (neg_round (m * up e * down g) (suc n * up g * down e))
          ∙ sym (ap (λ (t : Bool). neg (cond t (cond (eqb m 0) nan (inf false)) (round binary64 false (m * up e * down g) (suc n * up g * down e)))) (eqb-suc-zero n))
