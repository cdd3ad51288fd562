-- The tests of specs/Seconds.antt on whole numbers, for every rate and the indices of a stream. Assumes nothing.
use Rattle.std.proofs.Common.{◌≡◌, ℕ, ◌+◌, ◌-◌, ◌*◌, ◌^◌, ◌≤◌, true, ltb, leb, ◌∙◌, one-mul, arith, Option, None, Some}
use Rattle.rates.proofs.Tracker as C
use Rattle.rates.proofs.Values.{same_leb}
use Rattle.limits.specs.Limits.{longest_stream}
use Rattle.frequency_signal.specs.Seconds.{Rate, gap, quiet, since, young, late, settling, kept, oldest_of}

module _ (r : ℕ) (R : Rate r) where
  pub gap-never : (n : ℕ) → gap r n None ≡ true
  unfolding gap
  gap-never n = C.gap-never r R.0 R.1

  pub gap_at : (n s : ℕ) → n ≤ longest_stream → gap r n (Some s) ≡ ltb (1 * r) (10 * (n - s))
  unfolding gap
  gap_at n s N = rw (one-mul r) (C.gap_is r R.0 R.1 (n - s) (omega arith))

  pub quiet-never : (n : ℕ) → quiet r n None ≡ true
  unfolding quiet
  quiet-never n = C.quiet-never r R.0 R.1

  pub quiet_at : (n s : ℕ) → n ≤ longest_stream → quiet r n (Some s) ≡ ltb (10 * r) (n - s)
  unfolding quiet
  quiet_at n s N = C.quiet_is r R.0 R.1 (n - s) (omega arith)

  pub young_is : (n : ℕ) (from : Option ℕ) → n ≤ longest_stream → young r n from ≡ ltb (10 * since n from) (3 * r)
  unfolding young
  young_is n None N = C.settle_is r R.0 R.1 (n + 1) (omega arith)
  young_is n (Some s) N = C.settle_is r R.0 R.1 (n - s) (omega arith)

  pub late_at : (s at : ℕ) → s ≤ longest_stream → at ≤ 2 ^ 41 → late r (Some s) at ≡ leb (10 * s + 1 * r) (10 * at)
  unfolding late
  late_at s at S A = rw (one-mul r) (C.late_is r R.0 R.1 s at (omega arith) A)

  pub late-never : (at : ℕ) → at ≤ 2 ^ 41 → late r None at ≡ leb (1 * r) (10 * at + 10)
  unfolding late
  late-never at A = rw (one-mul r) (C.late-never r R.0 R.1 at A)

  pub settling_is : (tuned at : ℕ) → tuned ≤ longest_stream → at ≤ 2 ^ 41 → settling r tuned at ≡ ltb (10 * at) (10 * tuned + 3 * r)
  unfolding settling
  settling_is tuned at M A = C.settling_is r R.0 R.1 tuned at (omega arith) A

  pub kept_is : (n at : ℕ) → n ≤ longest_stream → at ≤ 2 ^ 41 → kept r n at ≡ leb n (at + 60 * r)
  unfolding kept
  kept_is n at N A = C.kept_is r R.0 R.1 n at (omega arith) A

  -- by the oldest index that is kept
  pub kept_from : (n a : ℕ) → n ≤ longest_stream → a ≤ 2 ^ 41 → kept r n a ≡ leb (oldest_of r n) a
  kept_from n a N A = kept_is n a N A ∙ same_leb n (a + 60 * r) (oldest_of r n) a (λ h. omega arith) (λ h. omega arith)
