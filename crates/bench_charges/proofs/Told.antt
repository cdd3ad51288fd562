-- From what the call answers to the number that the benchmark compares, on plain values. Assumes nothing.
use Prim.Native.Nat.{ℕ}
use mathlib.Core.Path.{◌≡◌, refl, ap, ◌∙◌}
use mathlib.Core.List.{List}
use lib.IntN.{ℤ, nat_abs}
use Rattle.std.specs.Prelude.{Result, Ok, Err}
use Rattle.std.specs.Result.{result_unwrap_or}
use Rattle.limits.specs.declared.Refusal.{Refusal}
use Rattle.limits.specs.Answer.{Answer, said, said_by, answer}
use Rattle.event_list.specs.Events.{events_of, messages_of}
use Rattle.subscription.specs.Charges.{cents_of, on_day, charge_cause}
use Rattle.subscription.specs.declared.Plan.{Plan}
use Rattle.bench_charges.specs.Cents.{cents_in}

abbrev given : Plan → List ℕ → ℤ → Answer ℕ
given plan l z = answer (charge_cause l plan z) (cents_of plan (on_day (nat_abs z) (messages_of (events_of l))))

pub told : (r : Result ℕ Refusal) (plan : Plan) (y z : ℤ) (l : List ℕ) (n : ℕ) → said r ≡ given plan l y → y ≡ z → n ≡ result_unwrap_or r 0 → n ≡ cents_in (given plan l z)
told r plan y z l n e q h = h ∙ unwrapped r ∙ ap cents_in (e ∙ ap (given plan l) q)
  where
    unwrapped : (r : Result ℕ Refusal) → result_unwrap_or r 0 ≡ cents_in (said r)
    unwrapped (Ok n) = unfold said_by in refl
    unwrapped (Err e) = unfold said_by in refl
