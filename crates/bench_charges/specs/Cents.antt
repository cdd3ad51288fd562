-- The plan of the benchmark, and of an answer of `charges` the number that it compares. Assumes nothing.
use Rattle.std.specs.Prelude.{ℕ, [], ◌∷◌}
use Rattle.limits.specs.Answer.{Answer, refused, accepted}
use Rattle.subscription.specs.declared.Plan.{Plan}
use Rattle.subscription.specs.declared.Step.{Step}

abbrev step : ℕ → ℕ → Step
step upper price = record { upper = upper; price = price }

abbrev pub bench_plan : Plan
bench_plan = record {
  fee = 500;
  allowance = 1000;
  count = 3;
  steps = step 10000 700 ∷ step 20000 400 ∷ step 0 250 ∷ step 0 0 ∷ step 0 0 ∷ step 0 0 ∷ step 0 0 ∷ step 0 0 ∷ [];
}

-- the cents, 0 where the call is refused
abbrev pub cents_in : Answer ℕ → ℕ
cents_in (refused n) = 0
cents_in (accepted n) = n
