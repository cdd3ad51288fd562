-- Laws of the verdicts: each is the clock's step, and those that accept name the clock's points. Assumes nothing.
use Rattle.std.proofs.Common.{◌≡◌, ℕ, Bool, true, false, cond, ◌||◌, List, [], ◌∷◌, refl, ap, ◌∙◌, arith}
use lib.Ieee.{Float}
use Rattle.clock.specs.Clock.{lost}
use Rattle.clock.specs.Running.{index_at, skips, summed, refit, step, after, added, points_from}
use Rattle.clock.specs.declared.Clock.{Clock}
use Rattle.clock.specs.declared.Step.{Step}
use Rattle.clock.specs.declared.Step.TheVariants as steps
use Rattle.explaining.specs.Verdicts.{off_by, is_far, is_behind, skipped_by, judged, step_of, clock_after, judged_from, places_of, SameStep, SamePoints}
use Rattle.explaining.specs.declared.Verdict.{Verdict}
use Rattle.explaining.specs.declared.Verdict.TheVariants.{Lost, OffGrid, Behind, Accepted}

-- ---- over the three tests

abbrev verdict : Bool → Bool → Bool → Float → Clock → Verdict
verdict l f b o n = cond l Lost (cond f (OffGrid o) (cond b (Behind o) (Accepted n o)))

abbrev step_by : Bool → Bool → Bool → Clock → Step
step_by l f b n = cond l steps.Lost (cond (f || b) steps.Skipped (steps.Joined n))

step_told : (l f b : Bool) (o : Float) (n : Clock) → step_of (verdict l f b o n) ≡ step_by l f b n
unfolding step_of
step_told true f b o n = refl
step_told false true b o n = refl
step_told false false true o n = refl
step_told false false false o n = refl

lost_told : (l f b : Bool) (o : Float) (n : Clock) → step_by l f b n ≡ steps.Lost → verdict l f b o n ≡ Lost
lost_told true f b o n e = refl
lost_told false true b o n e = absurd (let z : ◌≡◌ {A = ℕ} 0 1 = cc in omega arith)
lost_told false false true o n e = absurd (let z : ◌≡◌ {A = ℕ} 0 1 = cc in omega arith)
lost_told false false false o n e = absurd (let z : ◌≡◌ {A = ℕ} 0 1 = cc in omega arith)

skipped_told : (l f b : Bool) (o : Float) (n : Clock) → step_by l f b n ≡ steps.Skipped → verdict l f b o n ≡ skipped_by f o
unfolding skipped_by
skipped_told true f b o n e = absurd (let z : ◌≡◌ {A = ℕ} 0 1 = cc in omega arith)
skipped_told false true b o n e = refl
skipped_told false false true o n e = refl
skipped_told false false false o n e = absurd (let z : ◌≡◌ {A = ℕ} 0 1 = cc in omega arith)

joined_told : (l f b : Bool) (o : Float) (n m : Clock) → step_by l f b n ≡ steps.Joined m → verdict l f b o n ≡ Accepted m o
joined_told true f b o n m e = absurd (let z : ◌≡◌ {A = ℕ} 0 1 = cc in omega arith)
joined_told false true b o n m e = absurd (let z : ◌≡◌ {A = ℕ} 0 1 = cc in omega arith)
joined_told false false true o n m e = absurd (let z : ◌≡◌ {A = ℕ} 0 1 = cc in omega arith)
joined_told false false false o n m e = let s : n ≡ m = cc in ap (λ (k : Clock). Accepted k o) s

-- ---- of a clock and a dip

module _ (c : Clock) (d : Float) where
  pub same_step : step_of (judged c d) ≡ step c d
  unfolding judged is_far is_behind step skips
  same_step = step_told (lost (index_at c d)) (is_far c d (index_at c d)) (is_behind c (index_at c d)) (off_by c d (index_at c d)) (refit (summed c d (index_at c d)))

  pub judged-lost : step c d ≡ steps.Lost → judged c d ≡ Lost
  unfolding judged is_far is_behind step skips
  judged-lost e = lost_told (lost (index_at c d)) (is_far c d (index_at c d)) (is_behind c (index_at c d)) (off_by c d (index_at c d)) (refit (summed c d (index_at c d))) e

  pub judged-skipped : step c d ≡ steps.Skipped → judged c d ≡ skipped_by (is_far c d (index_at c d)) (off_by c d (index_at c d))
  unfolding judged is_far is_behind step skips
  judged-skipped e = skipped_told (lost (index_at c d)) (is_far c d (index_at c d)) (is_behind c (index_at c d)) (off_by c d (index_at c d)) (refit (summed c d (index_at c d))) e

  pub judged-joined : (m : Clock) → step c d ≡ steps.Joined m → judged c d ≡ Accepted m (off_by c d (index_at c d))
  unfolding judged is_far is_behind step skips
  judged-joined m e = joined_told (lost (index_at c d)) (is_far c d (index_at c d)) (is_behind c (index_at c d)) (off_by c d (index_at c d)) (refit (summed c d (index_at c d))) m e

-- ---- all dips

placed : (v : Verdict) (vs : List Verdict) → places_of (v ∷ vs) ≡ added (step_of v) (places_of vs)
unfolding places_of added step_of
placed Lost vs = refl
placed (OffGrid x) vs = refl
placed (Behind x) vs = refl
placed (Accepted e x) vs = refl

moved : (c : Clock) (v : Verdict) → clock_after c v ≡ after c (step_of v)
unfolding clock_after after step_of
moved c Lost = refl
moved c (OffGrid x) = refl
moved c (Behind x) = refl
moved c (Accepted e x) = refl

pub each_step : SameStep
each_step c d = same_step c d

pub same_points : SamePoints
unfolding judged_from places_of points_from
same_points c [] = refl
same_points c (d ∷ ds) =
    placed (judged c d) (judged_from (clock_after c (judged c d)) ds)
    ∙ ap (added (step_of (judged c d))) (same_points (clock_after c (judged c d)) ds)
    ∙ ap (λ (k : Clock). added (step_of (judged c d)) (points_from k ds)) (moved c (judged c d))
    ∙ ap (λ (s : Step). added s (points_from (after c s) ds)) (same_step c d)
