-- The clusters of runs of equal samples. Assumes nothing.
use Rattle.std.proofs.Common.{◌≡◌, ℕ, zero, suc, ◌+◌, ◌-◌, ◌<◌, ◌≤◌, true, false, List, [], ◌∷◌, ◌++◌, replicate, refl, ap, ◌∙◌, arith, le-ltb, lt-ltb}
use lib.Ieee.{Float}
use Rattle.bursts.specs.Bursts.{Cluster, cluster, none, since, loud, clusters}

-- ---- runs of equal samples

module _ (t : Float) (gap : ℕ) (h q : Float) (H : loud t h ≡ true) (Q : loud t q ≡ false) where
  -- one sample
  passes : (i : ℕ) (xs : List Float) → clusters t gap none i (q ∷ xs) ≡ clusters t gap none (suc i) xs
  unfolding clusters
  passes i xs = rw Q

  opens : (i : ℕ) (xs : List Float) → clusters t gap none i (h ∷ xs) ≡ clusters t gap (since i i) (suc i) xs
  unfolding clusters
  opens i xs = rw H

  joins : (s k i : ℕ) (xs : List Float) → clusters t gap (since s k) i (h ∷ xs) ≡ clusters t gap (since s i) (suc i) xs
  unfolding clusters
  joins s k i xs = rw H

  waits : (s k i : ℕ) (xs : List Float) → i ≤ k + gap → clusters t gap (since s k) i (q ∷ xs) ≡ clusters t gap (since s k) (suc i) xs
  unfolding clusters
  waits s k i xs b = rw (Q, le-ltb gap (i - k) (omega arith))

  closes : (s k i : ℕ) (xs : List Float) → k + gap < i → clusters t gap (since s k) i (q ∷ xs) ≡ cluster s k ∷ clusters t gap none (suc i) xs
  unfolding clusters
  closes s k i xs b = rw (Q, lt-ltb gap (i - k) (omega arith))

  -- n samples, up to index j
  quiet-run : (n i j : ℕ) (xs : List Float) → j ≡ i + n → clusters t gap none i (replicate n q ++ xs) ≡ clusters t gap none j xs
  quiet-run zero i j xs e = let z : j ≡ i = omega arith in rw z
  quiet-run (suc n) i j xs e = passes i (replicate n q ++ xs) ∙ quiet-run n (suc i) j xs (omega arith)

  loud-run : (n s k i j : ℕ) (xs : List Float) → suc k ≡ i → j ≡ i + n → clusters t gap (since s k) i (replicate n h ++ xs) ≡ clusters t gap (since s (j - 1)) j xs
  loud-run zero s k i j xs d e = let z : j ≡ i = omega arith in let y : i - 1 ≡ k = omega arith in rw (z, y)
  loud-run (suc n) s k i j xs d e = joins s k i (replicate n h ++ xs) ∙ loud-run n s i (suc i) j xs refl (omega arith)

  last_run : (n s k i j : ℕ) → suc k ≡ i → j ≡ i + n → clusters t gap (since s k) i (replicate n h) ≡ cluster s (j - 1) ∷ []
  unfolding clusters
  last_run zero s k i j d e = let y : k ≡ j - 1 = omega arith in rw y
  last_run (suc n) s k i j d e = joins s k i (replicate n h) ∙ last_run n s i (suc i) j refl (omega arith)

  wait_run : (n s k i j : ℕ) (xs : List Float) → j ≡ i + n → j ≤ k + gap + 1 → clusters t gap (since s k) i (replicate n q ++ xs) ≡ clusters t gap (since s k) j xs
  wait_run zero s k i j xs e b = let z : j ≡ i = omega arith in rw z
  wait_run (suc n) s k i j xs e b = waits s k i (replicate n q ++ xs) (omega arith) ∙ wait_run n s k (suc i) j xs (omega arith) b

  -- loud samples from index 1 on: alone, with a pause that is bridged, and with one that is longer
  pub one : (m : ℕ) → clusters t gap none 0 (replicate 1 q ++ replicate (suc m) h) ≡ cluster 1 (m + 1) ∷ []
  one m =
      let z : m + 2 - 1 ≡ m + 1 = omega arith in
      passes 0 (replicate (suc m) h) ∙ opens 1 (replicate m h) ∙ last_run m 1 1 2 (m + 2) refl (omega arith) ∙ rw z

  opened : (m : ℕ) (xs : List Float) → clusters t gap none 0 (replicate 1 q ++ (replicate (suc m) h ++ xs)) ≡ clusters t gap (since 1 (m + 1)) (m + 2) xs
  opened m xs =
      let z : m + 2 - 1 ≡ m + 1 = omega arith in
      passes 0 (replicate (suc m) h ++ xs) ∙ opens 1 (replicate m h ++ xs) ∙ loud-run m 1 1 2 (m + 2) xs refl (omega arith) ∙ rw z

  pub joined : (m n p : ℕ) → n ≤ gap → clusters t gap none 0 (replicate 1 q ++ (replicate (suc m) h ++ (replicate n q ++ replicate (suc p) h))) ≡ cluster 1 (m + n + p + 2) ∷ []
  joined m n p b =
      let z : m + n + p + 3 - 1 ≡ m + n + p + 2 = omega arith in
      opened m (replicate n q ++ replicate (suc p) h) ∙ wait_run n 1 (m + 1) (m + 2) (m + n + 2) (replicate (suc p) h) (omega arith) (omega arith)
      ∙ joins 1 (m + 1) (m + n + 2) (replicate p h) ∙ last_run p 1 (m + n + 2) (suc (m + n + 2)) (m + n + p + 3) refl (omega arith) ∙ rw z

  one_more : (n : ℕ) (xs : List Float) → replicate (suc n) q ++ xs ≡ replicate n q ++ (q ∷ xs)
  one_more zero xs = refl
  one_more (suc n) xs = ap (λ (l : List Float). q ∷ l) (one_more n xs)

  pub parted : (m p : ℕ) → clusters t gap none 0 (replicate 1 q ++ (replicate (suc m) h ++ (replicate (suc gap) q ++ replicate (suc p) h)))
      ≡ cluster 1 (m + 1) ∷ cluster (m + gap + 3) (m + gap + p + 3) ∷ []
  parted m p =
      let z : m + gap + p + 4 - 1 ≡ m + gap + p + 3 = omega arith in
      let y : suc (m + gap + 2) ≡ m + gap + 3 = omega arith in
      opened m (replicate (suc gap) q ++ replicate (suc p) h) ∙ ap (clusters t gap (since 1 (m + 1)) (m + 2)) (one_more gap (replicate (suc p) h))
      ∙ wait_run gap 1 (m + 1) (m + 2) (m + gap + 2) (q ∷ replicate (suc p) h) (omega arith) (omega arith)
      ∙ closes 1 (m + 1) (m + gap + 2) (replicate (suc p) h) (omega arith)
      ∙ ap (λ (cs : List Cluster). cluster 1 (m + 1) ∷ cs)
      (rw y (opens (m + gap + 3) (replicate p h) ∙ last_run p (m + gap + 3) (m + gap + 3) (suc (m + gap + 3)) (m + gap + p + 4) refl (omega arith) ∙ rw z))
