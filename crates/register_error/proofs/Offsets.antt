-- What the filter of 10 kHz lets through: readings of at most 76 steps, whose answer is the receiver frequency and a whole number of hertz by the steps alone. Assumes nothing.
use mathlib.Core.Path.{◌≡◌, refl, sym, ap, ◌∙◌}
use mathlib.Core.Bool.{Bool, true, false, ◌&&◌, true≢false}
use mathlib.Core.Logic.{⊎_elim}
use Prim.Native.Nat.{ℕ, zero, suc, ◌+◌, ◌-◌, ◌*◌, ◌/◌, ◌^◌, ◌≤◌, ◌<◌}
use native.Mathlib.Nat.{mul_assoc, add-mul, mul-pos}
use native.Mathlib.Omega.{arith}
use borrow.Author.Tests.{eqb-true, eqb-false, ltb-true, leb-true}
use lib.Dec.{leb, ltb, eqb}
use lib.IntN.{ℤ, pos, negsuc}
use lib.Ieee.{Float, nan, inf, fin, binary64, round, sub, neg, le}
use lib.Ieee.Positive as P
use Rattle.floats.specs.Number.{num}
use Rattle.floats.specs.Trig.{magnitude}
use Rattle.floats.proofs.Floors.{neg_round}
use Rattle.rates.proofs.Near.{int_value}
use Rattle.rates.proofs.Opposed.{sub_under}
use Rattle.rates.proofs.Between.{Lies, rounded, whole_lies, minus_lies, up_to_whole}
use Rattle.limits.proofs.Samples.{and_left, and_right}
use Rattle.order.proofs.Rank.{less_or_not}
use Rattle.frequency_measure.specs.Measured.{near, max_offset_hz}
use Rattle.register_error.specs.Bound.{least}
use Rattle.register_error.proofs.Readings.{spread, place, Small, by_denominator}

-- ---- the filter

plain : (x : Float) {l u : ℕ} → Lies x l u → magnitude x ≡ x
unfolding magnitude
plain nan h = absurd h.own
plain (inf s) h = absurd h.own
plain (fin true m e) h = absurd (true≢false h.own.0)
plain (fin false m e) h = refl

unsigned : (x : Float) → magnitude (neg x) ≡ magnitude x
unfolding magnitude neg
unsigned nan = refl
unsigned (inf s) = refl
unsigned (fin s m e) = refl

-- over 10,000 Hz
far : {x : Float} {l u : ℕ} → Lies x l u → 1024 * 10000 < l → le x max_offset_hz ≡ false
far h g = up_to_whole h 10000 (omega arith) 1 0 (λ n. absurd (omega arith)) (λ n. g)

-- at most 76 steps
abbrev pub Few : ℤ → Type 0
Few (pos c) = c ≤ 76
Few (negsuc k) = suc k ≤ 76

module _ (v : Float) (lo : ℕ) (L : lo < 2 ^ 32) where
  far-above : (c : ℕ) → c ≤ 2048 → Lies v (1024 * lo + spread c - 2) (1024 * lo + spread c + 2) → 76 < c → near v lo ≡ false
  far-above c C h g =
      let d = minus_lies h (whole_lies lo (omega arith)) (omega arith) (omega arith) in
      ap (λ (x : Float). le x max_offset_hz) (plain (sub binary64 v (num lo)) d) ∙ far d (omega arith)

  far-below : (c : ℕ) → c ≤ 2048 → 2 < 1024 * lo - spread c → Lies v (1024 * lo - spread c - 2) (1024 * lo - spread c + 2) → 76 < c → near v lo ≡ false
  far-below c C s h g =
      ap (λ (x : Float). le (magnitude x) max_offset_hz) (sub_under binary64 v (num lo) n (lo * d) d (P.den_pos v) less h.own (by_denominator (num lo) lo d (int_value lo (omega arith))) ∙ sym (neg_round (lo * d - n) d))
      ∙ ap (λ (x : Float). le x max_offset_hz) (unsigned (round binary64 false (lo * d - n) d) ∙ plain (round binary64 false (lo * d - n) d) lies)
      ∙ far lies (omega arith)
    where
      d : ℕ
      d = P.den v

      n : ℕ
      n = P.num v

      low : (w u lo n d : ℕ) → u + w ≡ 1024 * lo → n * 1024 ≤ u * d → w * d ≤ (lo * d - n) * 1024
      low w u lo n d e h =
          let p : u * d + w * d ≡ 1024 * (lo * d) = sym (add-mul u w d) ∙ ap (λ (z : ℕ). z * d) e ∙ mul_assoc 1024 lo d in
          omega arith

      high : (w l lo n d : ℕ) → l + w ≡ 1024 * lo → l * d ≤ n * 1024 → (lo * d - n) * 1024 ≤ w * d
      high w l lo n d e h =
          let p : l * d + w * d ≡ 1024 * (lo * d) = sym (add-mul l w d) ∙ ap (λ (z : ℕ). z * d) e ∙ mul_assoc 1024 lo d in
          omega arith

      over : (spread c - 2) * d ≤ (lo * d - n) * 1024
      over = low (spread c - 2) (1024 * lo - spread c + 2) lo n d (omega arith) h.high

      less : n < lo * d
      less = let p : 0 < (spread c - 2) * d = mul-pos (omega arith) (P.den_pos v) in let q = over in omega arith

      lies : Lies (round binary64 false (lo * d - n) d) (spread c - 2) (spread c + 2)
      lies = rounded (lo * d - n) d (spread c - 2) (spread c + 2) (P.den_pos v) (omega arith) over (high (spread c + 2) (1024 * lo - spread c - 2) lo n d (omega arith) h.low)

  pub few-steps : (z : ℤ) → Small z → 2 < place lo z → Lies v (place lo z - 2) (place lo z + 2) → near v lo ≡ true → Few z
  few-steps (pos c) C s h t = ⊎_elim (λ g. absurd (true≢false (sym t ∙ far-above c C h g))) (λ g. g) (less_or_not 76 c)
  few-steps (negsuc k) C s h t = ⊎_elim (λ g. absurd (true≢false (sym t ∙ far-below (suc k) C s h g))) (λ g. g) (less_or_not 76 (suc k))

-- ---- the whole hertz of at most 76 steps

abbrev pub hertz : ℕ → ℕ
hertz c = (spread c + 512) / 1024

-- no offset lies within 2 1,024ths of a half, and rounding moves it by 5904 / 11904 Hz at most
abbrev goes : ℕ → Bool
goes c =
    ltb (1024 * hertz c) (spread c + 510) && (ltb (spread c + 514) (1024 * suc (hertz c)) && (leb (11904 * hertz c) (1562500 * c + 5904) && leb (1562500 * c) (11904 * hertz c + 5904)))

abbrev all_below : ℕ → Bool
all_below zero = true
all_below (suc n) = goes n && all_below n

all_go : all_below 77 ≡ true
all_go = refl

below : (n : ℕ) → all_below n ≡ true → (x : ℕ) → x < n → goes x ≡ true
below zero t x h = absurd (omega arith)
below (suc n) t x h = choose (eqb x n) (eqb-true x n) (eqb-false x n) (below n (and_right (goes n) (all_below n) t) x)
  where
    choose : (b : Bool) → (b ≡ true → x ≡ n) → (b ≡ false → x ≡ n → ⊥) → (x < n → goes x ≡ true) → goes x ≡ true
    choose true f g r = ap goes (f refl) ∙ and_left (goes n) (all_below n) t
    choose false f g r = r (omega (arith, g refl))

pub record Hertz (c : ℕ) : Type 0 where
  pub low : 1024 * hertz c < spread c + 510
  pub high : spread c + 514 < 1024 * suc (hertz c)
  pub over : 11904 * hertz c ≤ 1562500 * c + 5904
  pub under : 1562500 * c ≤ 11904 * hertz c + 5904

pub hertz_of : (c : ℕ) → c ≤ 76 → Hertz c
hertz_of c h =
    let t : goes c ≡ true = below 77 all_go c (omega arith) in
    let a = ltb (1024 * hertz c) (spread c + 510) in
    let b = ltb (spread c + 514) (1024 * suc (hertz c)) in
    let p = leb (11904 * hertz c) (1562500 * c + 5904) in
    let q = leb (1562500 * c) (11904 * hertz c + 5904) in
    let u = and_right a (b && (p && q)) t in
    let w = and_right b (p && q) u in
    record {
      low = ltb-true (1024 * hertz c) (spread c + 510) (and_left a (b && (p && q)) t);
      high = ltb-true (spread c + 514) (1024 * suc (hertz c)) (and_left b (p && q) u);
      over = leb-true (11904 * hertz c) (1562500 * c + 5904) (and_left p q w);
      under = leb-true (1562500 * c) (11904 * hertz c + 5904) (and_right p q w);
    }

-- the whole number k of a reading that is rounded
abbrev pub Exactly : ℕ → ℤ → ℕ → Type 0
Exactly lo (pos c) k = k ≡ lo + hertz c
Exactly lo (negsuc j) k = k + hertz (suc j) ≡ lo

pub exactly : (lo : ℕ) (z : ℤ) (k : ℕ) → 2 < place lo z → Few z → 1024 * k ≤ place lo z + 514 → place lo z + 510 < 1024 * suc k → Exactly lo z k
exactly lo (pos c) k s f a b = let h = hertz_of c f in omega (arith, h.low, h.high)
exactly lo (negsuc j) k s f a b = let h = hertz_of (suc j) f in omega (arith, h.low, h.high)

-- steps no further apart than d, and 5904 / 11904 Hz for rounding each of the two to whole hertz
pub apart_by : (lo d : ℕ) (z w : ℤ) (k m : ℕ) → 2 < place lo z → 2 < place lo w → Few z → Few w → Exactly lo z k → Exactly lo w m → 11904 * place lo z ≤ 11904 * place lo w + (1600000000 * d + 10 * 11904)
    → 11904 * k ≤ 11904 * m + (1562500 * d + least)
apart_by lo d (pos a) (pos b) k m s t f g p q h =
    let x = hertz_of a f in
    let y = hertz_of b g in
    let e : a ≤ b + d = omega arith in
    omega (arith, e, x.over, y.under)
apart_by lo d (pos a) (negsuc b) k m s t f g p q h =
    let x = hertz_of a f in
    let y = hertz_of (suc b) g in
    let e : a + suc b ≤ d = omega arith in
    omega (arith, e, x.over, y.over)
apart_by lo d (negsuc a) (pos b) k m s t f g p q h = omega arith
apart_by lo d (negsuc a) (negsuc b) k m s t f g p q h =
    let x = hertz_of (suc a) f in
    let y = hertz_of (suc b) g in
    let e : suc b ≤ suc a + d = omega arith in
    omega (arith, e, x.under, y.over)
