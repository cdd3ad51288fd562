-- The points of a fitted clock: how many they are, their first, that they rise, and that their places are small. Assumes nothing.
use Rattle.std.proofs.Common.{None, Some, ◌≡◌, ℕ, zero, suc, ◌+◌, ◌*◌, ◌^◌, ◌<◌, ◌≤◌, cond, List, [], ◌∷◌, map, length, get_or, sym, refl, ap, ◌∙◌, subst, ⊎_elim, arith, le→leb}
use lib.Ieee.{Float, binary64, to_unsigned, in_float}
use lib.Ieee.Back.{unsigned_back}
use Rattle.floats.specs.Number.{num}
use Rattle.clock.specs.declared.Clock.{Clock}
use Rattle.clock.specs.declared.Step.{Step}
use Rattle.clock.specs.declared.Step.TheVariants.{Lost, Skipped, Joined}
use Rattle.clock.specs.Numbers.{farthest_bit}
use Rattle.clock.specs.Running.{step, astray, after, added, kept, fit_from, points_from, depths_from}
use Rattle.order.specs.Order.{Numbers}
use Rattle.dips.proofs.DipLaws.{lt_or_ge}
use Rattle.dips.proofs.Depths.{AllNumbers}
use Rattle.clock.proofs.FitLaws.{Point, joined-point}
use Rattle.clock.specs.Walk.{Rising, flat, rise}

pub data Small : List ℕ → Type 0 where
  no_more : Small []
  one : {p : ℕ} {ps : List ℕ} → p ≤ 2 * farthest_bit → Small ps → Small (p ∷ ps)

-- a clock's first point is not after its last
pub record Good (c : Clock) : Type 0 where
  pub order : 0 < c.count → c.first ≤ c.last
  pub low : 0 < c.count → c.last ≤ 2 * farthest_bit

pub record Facts (c e : Clock) (l : List ℕ) : Type 0 where
  pub many : e.count ≡ c.count + length l
  pub keeps : 0 < c.count → e.first ≡ c.first
  pub opens : c.count ≡ 0 → 0 < length l → get_or l 0 0 ≡ e.first
  pub rises : 0 < c.count → Rising (suc c.last) l
  pub starts : c.count ≡ 0 → Rising 0 l
  pub small : Small l
  pub good : Good e

good-point : (c x : Clock) → Point c x → Good c → Good x
good-point c x p g =
    record {
      order = λ h. ⊎_elim
          (λ a. let e = p.keeps a in let r = p.rises a in let o = g.order a in omega arith)
          (λ a. let e = p.begins (omega arith) in omega arith)
          (lt_or_ge 0 c.count);
      low = λ h. p.small;
    }

one_more : (c x e : Clock) (l : List ℕ) → Point c x → Facts x e l → Facts c e (x.last ∷ l)
one_more c x e l p f =
    let m = p.more in
    let a = f.many in
    let h : 0 < x.count = omega arith in
    record {
      many = omega arith;
      keeps = λ k. f.keeps h ∙ p.keeps k;
      opens = λ z k. sym (f.keeps h ∙ p.begins z);
      rises = λ k. rise (p.rises k) (f.rises h);
      starts = λ z. rise {k = 0} {p = x.last} (omega arith) (f.rises h);
      small = one p.small f.small;
      good = f.good;
    }

pub facts : (c e : Clock) (ds : List Float) → fit_from c ds ≡ Some e → Good c → Facts c e (points_from c ds)
unfolding fit_from points_from astray after added
facts c e [] q g =
    let s : c ≡ e = cc in
    subst (λ (x : Clock). Facts c x []) s
    (record { many = omega arith; keeps = λ h. refl; opens = λ z h. absurd (omega arith); rises = λ h. flat; starts = λ z. flat; small = no_more; good = g })
facts c e (d ∷ ds) q g = go (step c d) (λ x s. joined-point c x d s) (λ x s. facts x e ds s) q
  where
    go : (s : Step) → ((x : Clock) → s ≡ Joined x → Point c x) → ((x : Clock) → fit_from x ds ≡ Some e → Good x → Facts x e (points_from x ds))
        → cond (astray s) None (fit_from (after c s) ds) ≡ Some e → Facts c e (added s (points_from (after c s) ds))
    go Lost p i q = absurd (let z : ◌≡◌ {A = ℕ} 0 1 = cc in omega arith)
    go Skipped p i q = i c q g
    go (Joined x) p i q = let t = p x refl in one_more c x e (points_from x ds) t (i x q (good-point c x t g))

-- no more points than dips
pub points-few : (c : Clock) (ds : List Float) → length (points_from c ds) ≤ length ds
unfolding points_from added after
points-few c [] = omega arith
points-few c (d ∷ ds) = go (step c d) (λ x. points-few x ds)
  where
    go : (s : Step) → ((x : Clock) → length (points_from x ds) ≤ length ds) → length (added s (points_from (after c s) ds)) ≤ length (d ∷ ds)
    go Lost i = let h = i c in omega arith
    go Skipped i = let h = i c in omega arith
    go (Joined x) i = let h = i x in omega arith

-- the depths that are kept are numbers where all are
pub kept_numbers : (c : Clock) (ds hs : List Float) → AllNumbers hs → AllNumbers (depths_from c ds hs)
unfolding depths_from kept after
kept_numbers c [] hs n = tt
kept_numbers c (d ∷ ds) [] n = tt
kept_numbers c (d ∷ ds) (h ∷ hs) n = go (step c d) (λ x. kept_numbers x ds hs n.1)
  where
    go : (s : Step) → ((x : Clock) → AllNumbers (depths_from x ds hs)) → AllNumbers (kept s h (depths_from (after c s) ds hs))
    go Lost i = i c
    go Skipped i = i c
    go (Joined x) i = (n.0, i x)

pub each_number : (l : List Float) → AllNumbers l → Numbers l
each_number [] n i h = absurd (omega arith)
each_number (x ∷ l) n zero h = n.0
each_number (x ∷ l) n (suc i) h = each_number l n.1 i (omega arith)

-- a small place as a float, and back
back : (n : ℕ) → n ≤ 2 * farthest_bit → to_unsigned 64 (num n) ≡ n
unfolding in_float
back n h = (unsigned_back binary64 64 n (le→leb n (2 ^ 53) (omega arith)) (omega arith)).1

pub places_back : (l : List ℕ) → Small l → map (to_unsigned 64) (map num l) ≡ l
places_back [] s = refl
places_back (p ∷ ps) (one h s) = rw (back p h) (ap (λ (l : List ℕ). p ∷ l) (places_back ps s))
