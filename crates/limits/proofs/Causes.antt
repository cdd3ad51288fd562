-- The causes of samples among those of a call that tests its rate and room before them, and more after them. Assumes nothing.
use Rattle.std.proofs.Common.{◌≡◌, refl, ℕ, ◌*◌, Bool, true, false, cond, not, List, length, ltb, arith}
use lib.Ieee.{Float}
use Rattle.limits.specs.Limits.{bad_rate, long, bad_sample, buffer_s}
use Rattle.limits.specs.declared.Refusal.{Refusal}
use Rattle.limits.specs.Refusals.{number_of}
use Rattle.limits.specs.Samples.{rate_ok, all_dbm, samples_cause}
use Rattle.limits.proofs.AnswerLaws.{number-positive}

later : (a b c : Bool) (n k : ℕ) → (n ≡ 0 → ⊥) → n ≡ cond a bad_rate (cond b long (cond c bad_sample 0)) → n ≡ cond a bad_rate (cond b long (cond c bad_sample k))
later true b c n k h e = e
later false true c n k h e = e
later false false true n k h e = e
later false false false n k h e = absurd (h e)

past : (a b c : Bool) (k : ℕ) → 0 ≡ cond a bad_rate (cond b long (cond c bad_sample 0)) → cond a bad_rate (cond b long (cond c bad_sample k)) ≡ k
past true b c k e = absurd (omega (arith, e))
past false true c k e = absurd (omega (arith, e))
past false false true k e = absurd (omega (arith, e))
past false false false k e = refl

module _ (dbm : List Float) (rate k : ℕ) where
  -- the causes of samples, and then more
  abbrev pub causes : ℕ
  causes = cond (not (rate_ok rate)) bad_rate (cond (ltb (buffer_s * rate) (length dbm)) long (cond (not (all_dbm dbm)) bad_sample k))

  -- at the exit of a `?` on them
  pub sample_refused : (e : Refusal) → number_of e ≡ samples_cause dbm rate → number_of e ≡ causes
  unfolding samples_cause
  sample_refused e h = later (not (rate_ok rate)) (ltb (buffer_s * rate) (length dbm)) (not (all_dbm dbm)) (number_of e) k (number-positive e) h

  -- past it
  pub samples_pass : 0 ≡ samples_cause dbm rate → causes ≡ k
  unfolding samples_cause
  samples_pass h = past (not (rate_ok rate)) (ltb (buffer_s * rate) (length dbm)) (not (all_dbm dbm)) k h
