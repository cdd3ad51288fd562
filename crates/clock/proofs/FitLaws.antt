-- Laws of the clock over all dips: what a point changes, and the loop that keeps the points' places. Assumes nothing.
use Rattle.std.proofs.Common.{None, Some, ◌≡◌, ℕ, suc, ◌+◌, ◌-◌, ◌*◌, ◌<◌, ◌≤◌, Bool, true, false, cond, ◌&&◌, ◌||◌, ltb, leb, List, [], ◌∷◌, ◌++◌, map, length, get_or, take, drop, set, sym, refl, ap, ◌∙◌, subst, append_assoc, append-nil, add-one, arith, take-suc-set, drop-set-lt, lt-ltb, eq-eqb, ne_eqb, leb-false}
use lib.Seq.{drop-cons}
use Rattle.std.proofs.lemmas.List.{drop_all}
use lib.Ieee.{Float, nan, binary64, add, sub, mul, lt}
use Rattle.floats.specs.Number.{num}
use Rattle.floats.specs.Trig.{magnitude}
use Rattle.clock.specs.declared.Clock.{Clock}
use Rattle.clock.specs.declared.Step.{Step}
use Rattle.clock.specs.declared.Step.TheVariants.{Lost, Skipped, Joined}
use Rattle.clock.specs.Clock.{lost, size_of}
use Rattle.clock.specs.Running.{place, index_at, skips, summed, det, refitted, refit, step, astray, after, added, kept, fit_from, points_from, depths_from}
use Rattle.clock.specs.Numbers.{off_grid, refits, farthest_bit}
use Rattle.clock.specs.Tracked.{Tracked}
use Rattle.dips.proofs.DipLaws.{or_right}
use Rattle.clock.proofs.ClockLaws.{size_small}

-- ---- a point more

pub record Point (c e : Clock) : Type 0 where
  pub more : e.count ≡ c.count + 1
  pub small : e.last ≤ 2 * farthest_bit
  pub begins : c.count ≡ 0 → e.first ≡ e.last
  pub keeps : 0 < c.count → e.first ≡ c.first
  pub rises : 0 < c.count → c.last < e.last

place-small : (k : Float) → lost k ≡ false → place k ≤ 2 * farthest_bit
unfolding place
place-small k e = go (lt k (num 0)) (size_small k e)
  where
    go : (t : Bool) → size_of k ≤ farthest_bit → cond t (farthest_bit - size_of k) (farthest_bit + size_of k) ≤ 2 * farthest_bit
    go true h = omega arith
    go false h = omega arith

-- a fit changes period and phase alone
refit-keeps : (c : Clock) → ((refit c).count ≡ c.count) × ((refit c).first ≡ c.first) × ((refit c).last ≡ c.last)
unfolding refit refitted
refit-keeps c = go (leb refits c.count && lt (num 0) (det c))
  where
    go : (t : Bool) → ((cond t (refitted c) c).count ≡ c.count) × ((cond t (refitted c) c).first ≡ c.first) × ((cond t (refitted c) c).last ≡ c.last)
    go true = (refl, refl, refl)
    go false = (refl, refl, refl)

later : (a : Bool) (n p l : ℕ) → a || (ltb 0 n && leb p l) ≡ false → 0 < n → l < p
later a n p l e h = leb-false p l (rw (lt-ltb 0 n h) at (or_right a (ltb 0 n && leb p l) e))

skips-later : (c : Clock) (d k : Float) → skips c d k ≡ false → 0 < c.count → c.last < place k
unfolding skips
skips-later c d k e h =
    later (lt (mul binary64 off_grid c.period) (magnitude (sub binary64 d (add binary64 c.phase (mul binary64 k c.period)))))
    c.count (place k) c.last e h

joins : (c : Clock) (d k : Float) → lost k ≡ false → skips c d k ≡ false → Point c (refit (summed c d k))
unfolding summed
joins c d k a b =
    let r = refit-keeps (summed c d k) in
    record {
      more = r.0;
      small = rw r.2 (place-small k a);
      begins = λ z. r.1 ∙ ap (λ (t : Bool). cond t (place k) c.first) (eq-eqb c.count 0 z) ∙ sym r.2;
      keeps = λ z. r.1 ∙ rw (ne_eqb c.count 0 (λ q. omega arith));
      rises = λ z. rw r.2 (skips-later c d k b z);
    }

pub joined-point : (c e : Clock) (d : Float) → step c d ≡ Joined e → Point c e
unfolding step
joined-point c e d q = go (lost (index_at c d)) (skips c d (index_at c d)) (joins c d (index_at c d)) q
  where
    go : (a b : Bool) → (a ≡ false → b ≡ false → Point c (refit (summed c d (index_at c d))))
        → cond a Lost (cond b Skipped (Joined (refit (summed c d (index_at c d))))) ≡ Joined e → Point c e
    go true b f q = absurd (let z : ◌≡◌ {A = ℕ} 0 1 = cc in omega arith)
    go false true f q = absurd (let z : ◌≡◌ {A = ℕ} 0 1 = cc in omega arith)
    go false false f q = let s : refit (summed c d (index_at c d)) ≡ e = cc in subst (λ (x : Clock). Point c x) s (f refl refl)

-- ---- the loop, at dip i: the points so far stand in front, with their depths in front of the depths, and the dips from i on are still there

pub record FitAt (start : Clock) (ds hs now deep : List Float) (c : Clock) (i : ℕ) : Type 0 where
  pub few : c.count ≤ i
  pub fits : fit_from start ds ≡ fit_from c (drop i now)
  pub points : map num (points_from start ds) ≡ take c.count now ++ map num (points_from c (drop i now))
  pub depths : depths_from start ds hs ≡ take c.count deep ++ depths_from c (drop i now) (drop i deep)

pub fit_start : (start : Clock) (ds hs : List Float) → start.count ≡ 0 → FitAt start ds hs ds hs start 0
fit_start start ds hs z = record { few = omega arith; fits = refl; points = rw z; depths = rw z }

-- a place that is behind is written
behind : (i a : ℕ) (l : List Float) (v : Float) → a ≤ i → drop (i + 1) (set l a v) ≡ drop (suc i) l
behind i a l v h = rw (add-one i, drop-set-lt (suc i) l a v (omega arith))

module _ (start : Clock) (ds hs now deep : List Float) (c : Clock) (i : ℕ) (f : FitAt start ds hs now deep c i) where
  pub fit_end : length now ≤ i → Tracked start ds hs (Some c) now deep
  unfolding fit_from points_from depths_from
  fit_end e =
      record {
        fit = sym (rw (drop_all i now e) at f.fits);
        holds = λ d q. let s : d ≡ c = cc in rw s (sym (f.points ∙ rw (drop_all i now e) (append-nil (take c.count now))));
        depths = λ d q. let s : d ≡ c = cc in rw s (sym (f.depths ∙ rw (drop_all i now e) (append-nil (take c.count deep))));
      }

  module _ (h : i < length now) (same : length deep ≡ length now) (r : Step) (t : r ≡ step c (get_or now i nan)) where
    cut : drop i now ≡ get_or now i nan ∷ drop (suc i) now
    cut = drop-cons now i nan h

    cut-depths : drop i deep ≡ get_or deep i nan ∷ drop (suc i) deep
    cut-depths = drop-cons deep i nan (omega arith)

    pub fit-lost : r ≡ Lost → Tracked start ds hs None now deep
    unfolding fit_from astray
    fit-lost e =
        record {
          fit = sym (f.fits ∙ rw (cut, sym t ∙ e));
          holds = λ d q. absurd (let z : ◌≡◌ {A = ℕ} 0 1 = cc in omega arith);
          depths = λ d q. absurd (let z : ◌≡◌ {A = ℕ} 0 1 = cc in omega arith);
        }

    pub fit-skipped : r ≡ Skipped → FitAt start ds hs now deep c (i + 1)
    unfolding fit_from points_from depths_from astray after added kept
    fit-skipped e =
        record {
          few = omega (arith, f.few);
          fits = f.fits ∙ rw (cut, sym t ∙ e, add-one i);
          points = f.points ∙ rw (cut, sym t ∙ e, add-one i);
          depths = f.depths ∙ rw (cut, cut-depths, sym t ∙ e, add-one i);
        }

    pub fit-joined : (e : Clock) (v x : Float) → r ≡ Joined e → v ≡ num e.last → x ≡ get_or deep i nan → FitAt start ds hs (set now c.count v) (set deep c.count x) e (i + 1)
    unfolding fit_from points_from depths_from astray after added kept
    fit-joined e v x q w y =
        let p : e.count ≡ c.count + 1 = (joined-point c e (get_or now i nan) (sym t ∙ q)).more in
        let few = f.few in
        let first : take e.count (set now c.count v) ≡ take c.count now ++ (v ∷ []) = rw (p, add-one c.count) (take-suc-set now c.count v (omega arith)) in
        let last : take e.count (set deep c.count x) ≡ take c.count deep ++ (x ∷ []) = rw (p, add-one c.count) (take-suc-set deep c.count x (omega arith)) in
        record {
          few = omega arith;
          fits = f.fits ∙ rw (cut, sym t ∙ q, behind i c.count now v few);
          points = f.points ∙ rw (cut, sym t ∙ q, behind i c.count now v few, first, append_assoc, w);
          depths = f.depths ∙ rw (cut, cut-depths, sym t ∙ q, behind i c.count now v few, behind i c.count deep x few, last, append_assoc, y);
        }
