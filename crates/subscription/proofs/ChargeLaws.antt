-- The call's answers, one for each way through the code. Assumes nothing.
use mathlib.Core.Path.{◌≡◌, refl, sym, ap, ◌∙◌}
use mathlib.Core.Bool.{Bool, true, false, cond, ◌&&◌}
use mathlib.Core.List.{List, []}
use Prim.Native.Nat.{ℕ, zero, suc, ◌+◌, ◌≤◌, ◌<◌}
use native.Mathlib.Omega.{arith}
use borrow.Author.Tests.{lt-ltb, le-ltb}
use lib.Dec.{T}
use lib.Signed.{non_neg}
use lib.ListN.{length, get_or, replicate, get_or-replicate, length-replicate}
use lib.IntN.{ℤ, nat_abs}
use Rattle.limits.specs.Limits.{most_record_bytes, long}
use Rattle.std.specs.Prelude.{Ok, Err}
use Rattle.limits.specs.declared.Refusal.TheVariants.{Long, BadRecords, BadPlan, OutsideMonth}
use Rattle.limits.specs.Answer.{Answer, said, said_by, answer, accepted}
use Rattle.limits.proofs.Samples.{and_right}
use Rattle.event_list.specs.Events.{events_of, messages_of, list_ok}
use Rattle.event_list.specs.Sums.{count}
use Rattle.subscription.specs.declared.Plan.{Plan}
use Rattle.subscription.specs.Charges.{days, latest_start, sum_to, all_in_month, day_cost, plan_ok, start_ok, cost_of, rounded_up, cents_of, on_day, month_cause, charge_cause}
use Rattle.subscription.specs.Counting.{second_of, tallied}
use Rattle.subscription.proofs.DayLaws.{second_is}
use Rattle.subscription.proofs.CountLaws.{counts_all}

-- ---- of what was read

module _ (v : ℕ) where
  pub says_bad : (ok sound within : Bool) → ok ≡ false → said (Err BadRecords) ≡ answer (month_cause ok sound within) v
  unfolding said_by answer month_cause
  says_bad ok sound within e = rw e refl

  pub says_plan : (ok plan start within : Bool) → ok ≡ true → plan ≡ false → said (Err BadPlan) ≡ answer (month_cause ok (plan && start) within) v
  unfolding said_by answer month_cause
  says_plan ok plan start within e f = rw (e, f) refl

  pub says_start : (ok plan start within : Bool) → ok ≡ true → plan ≡ true → start ≡ false → said (Err BadPlan) ≡ answer (month_cause ok (plan && start) within) v
  unfolding said_by answer month_cause
  says_start ok plan start within e f g = rw (e, f, g) refl

  pub says_out : (ok plan start within : Bool) → ok ≡ true → plan ≡ true → start ≡ true → within ≡ false → said (Err OutsideMonth) ≡ answer (month_cause ok (plan && start) within) v
  unfolding said_by answer month_cause
  says_out ok plan start within e f g h = rw (e, f, g, h) refl

  pub says_cents : (ok plan start within : Bool) → ok ≡ true → plan ≡ true → start ≡ true → within ≡ true → (n : ℕ) → n ≡ v
      → said (Ok n) ≡ answer (month_cause ok (plan && start) within) v
  unfolding said_by answer month_cause
  says_cents ok plan start within e f g h n k = rw (e, f, g, h) (ap accepted k)

-- ---- of a list

-- values matter only where no cause applies
pub same_answer : (ok ok' sound within within' : Bool) (v v' : ℕ) → ok ≡ ok' → (sound ≡ true → within ≡ within') → (sound ≡ true → within ≡ true → v ≡ v')
    → answer (month_cause ok sound within) v ≡ answer (month_cause ok' sound within') v'
unfolding answer month_cause
same_answer ok ok' sound within within' v v' e f g = ap (λ (b : Bool). answer (month_cause b sound within) v) e ∙ go ok' sound within f g
  where
    go : (ok sound within : Bool) → (sound ≡ true → within ≡ within') → (sound ≡ true → within ≡ true → v ≡ v')
        → answer (month_cause ok sound within) v ≡ answer (month_cause ok sound within') v'
    go false sound within f g = refl
    go true false within f g = refl
    go true true false f g = ap (λ (b : Bool). answer (month_cause true true b) v') (f refl)
    go true true true f g = ap accepted (g refl refl) ∙ ap (λ (b : Bool). answer (month_cause true true b) v') (f refl)

pub sum_same : (f g : ℕ → ℕ) (n : ℕ) → ((j : ℕ) → j < n → f j ≡ g j) → sum_to f n ≡ sum_to g n
unfolding sum_to
sum_same f g zero h = refl
sum_same f g (suc n) h = cc (sum_same f g n (λ j u. h j (omega arith)), h n (omega arith))

-- the same number of messages on each day
pub cents_same : (plan : Plan) (f g : ℕ → ℕ) → ((k : ℕ) → k < days → f k ≡ g k) → cents_of plan f ≡ cents_of plan g
unfolding cost_of
cents_same plan f g h =
    ap (λ (n : ℕ). plan.fee + rounded_up n) (sum_same (λ k. day_cost plan (f k)) (λ k. day_cost plan (g k)) days (λ k l. ap (day_cost plan) (h k l)))

module _ (l : List ℕ) (plan : Plan) (z : ℤ) where
  abbrev pub ms : List (List ℕ)
  ms = messages_of (events_of l)

  abbrev pub answered : Answer ℕ
  answered = answer (charge_cause l plan z) (cents_of plan (on_day (nat_abs z) ms))

  pub says_long : most_record_bytes < length l → said (Err Long) ≡ answered
  unfolding said_by answer charge_cause
  says_long h = rw (lt-ltb most_record_bytes (length l) h) refl

  -- what was read of it from nothing on
  pub says_read : length l ≤ most_record_bytes → (ok within : Bool) (c : List ℕ) → ok ≡ list_ok l → within ≡ all_in_month (second_of z) ms → c ≡ tallied (second_of z) (replicate days 0) (events_of l)
      → (z' : ℤ) → z' ≡ z → answer (month_cause ok (plan_ok plan && start_ok z') within) (cents_of plan (λ k. get_or c k 0)) ≡ answered
  unfolding charge_cause count
  says_read h ok within c e f g z' q =
      ap (λ (x : ℤ). answer (month_cause ok (plan_ok plan && start_ok x) within) (cents_of plan (λ k. get_or c k 0))) q
      ∙ same_answer ok (list_ok l) (plan_ok plan && start_ok z) within (all_in_month (nat_abs z) ms) (cents_of plan (λ k. get_or c k 0)) (cents_of plan (on_day (nat_abs z) ms)) e
      (λ s. f ∙ ap (λ (n : ℕ). all_in_month n ms) (sym (start s).1))
      (λ s w. cents_same plan (λ k. get_or c k 0) (on_day (nat_abs z) ms) (counted s w))
      ∙ ap (λ (b : Bool). answer (cond b long (month_cause (list_ok l) (plan_ok plan && start_ok z) (all_in_month (nat_abs z) ms))) (cents_of plan (on_day (nat_abs z) ms))) (sym (le-ltb most_record_bytes (length l) h))
    where
      start : (plan_ok plan && start_ok z) ≡ true → T (non_neg z) × (nat_abs z ≡ second_of z) × (nat_abs z ≤ latest_start)
      start s = second_is z (and_right (plan_ok plan) (start_ok z) s)

      counted : (plan_ok plan && start_ok z) ≡ true → within ≡ true → (k : ℕ) → k < days → get_or c k 0 ≡ on_day (nat_abs z) ms k
      counted s w k u =
          let q = (start s).1 in
          let low : second_of z ≤ latest_start = omega (arith, q, (start s).2) in
          ap (λ (x : List ℕ). get_or x k 0) g
          ∙ counts_all (second_of z) low (events_of l) (replicate days 0) [] (length-replicate {A = ℕ} days 0) (sym f ∙ w) (λ j v. get_or-replicate days j 0 0 v) k u
          ∙ ap (λ (n : ℕ). on_day n ms k) (sym q)
