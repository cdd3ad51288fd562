-- From what `on_air` answers to the number that the benchmark compares, on plain values. Assumes nothing.
use Prim.Native.Nat.{ℕ, zero, suc}
use mathlib.Core.Path.{◌≡◌, refl, ap, ◌∙◌}
use mathlib.Core.List.{List}
use Rattle.limits.specs.Answer.{Answer, said, said_by, answer, number, leaves}
use Rattle.std.specs.Prelude.{Result, Ok, Err}
use Rattle.std.specs.Result.{result_unwrap_or}
use Rattle.limits.specs.declared.Refusal.{Refusal}
use Rattle.bench_grip.specs.Told.{count_of}

pub counted : (r : Result ℕ Refusal) (cause count : ℕ) (made old now : List ℕ) (n : ℕ) → (said r ≡ answer cause count) × (now ≡ leaves (number (said r)) made old)
    → n ≡ result_unwrap_or r 0 → (n ≡ count_of (answer cause count)) × (now ≡ leaves cause made old)
counted r cause count made old now n e h =
    (h ∙ unwrapped r ∙ ap count_of e.0, e.1 ∙ ap (λ (a : Answer ℕ). leaves (number a) made old) e.0 ∙ ap (λ (c : ℕ). leaves c made old) (numbered cause))
  where
    unwrapped : (r : Result ℕ Refusal) → result_unwrap_or r 0 ≡ count_of (said r)
    unwrapped (Ok n) = unfold said_by in refl
    unwrapped (Err e) = unfold said_by in refl

    numbered : (c : ℕ) → number (answer c count) ≡ c
    numbered zero = unfold number in unfold answer in refl
    numbered (suc c) = unfold number in unfold answer in refl
