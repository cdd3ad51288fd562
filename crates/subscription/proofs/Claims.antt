-- Request 13's claims, proved. Assumes nothing.
use mathlib.Core.Path.{◌≡◌, refl, sym, ap, ap₂, ◌∙◌, subst}
use mathlib.Core.Bool.{Bool, true, false, cond, ◌&&◌}
use mathlib.Core.List.{List, [], ◌∷◌, ◌++◌, append-nil, append_assoc, Permᴰ}
use Prim.Native.Nat.{ℕ, zero, suc, ◌+◌, ◌-◌, ◌*◌, ◌/◌, ◌%◌, ◌≤◌, ◌<◌}
use mathlib.Core.Logic.{⊎_elim}
use native.Mathlib.Nat.{eq-or-lt_of_le}
use native.Mathlib.Omega.{arith}
use borrow.Author.Tests.{leb-true, leb-false, eqb-true, eqb-false, eq-eqb, ne_eqb}
use lib.Dec.{leb, ltb, eqb}
use lib.ListN.{length, length-append}
use lib.IntN.{ℤ, nat_abs}
use Rattle.limits.specs.Limits.{record_size, most_record_bytes, long}
use Rattle.limits.specs.Answer.{answer, number, accepted}
use Rattle.limits.proofs.Samples.{and_assoc, and_left, and_right}
use Rattle.record.specs.Readers.{time_of}
use Rattle.event_list.specs.Events.{events_of, is_message, messages_of, all_ok, list_ok}
use Rattle.event_list.specs.Sums.{count}
use Rattle.event_list.proofs.SumLaws.{those-append, count-append, those_perm, count_perm}
use Rattle.event_list.proofs.EventLaws.{events-append, ok_append, ok_reordered}
use Rattle.subscription.specs.declared.Plan.{Plan}
use Rattle.subscription.specs.Charges.{sum_to, days, dearest, latest_start, in_day, in_month, all_in_month, price_of, step_of, day_cost, plan_ok, start_ok, rounded_up, cost_of, cents_of, on_day, month_cause, charge_cause}
use Rattle.subscription.specs.Counting.{stepped, tallied}
use Rattle.subscription.specs.Claims.{number_cost, message_cost, list_cost, Sum, EverySum, AnyOrder}
use Rattle.subscription.specs.Parts.{PartsAdd}
use Rattle.subscription.proofs.DayLaws.{only-day, day-under, second_is}
use Rattle.subscription.proofs.PriceLaws.{Sound, sound, extra_price, extras_le}
use Rattle.subscription.proofs.ChargeLaws.{sum_same, cents_same}

-- ---- the month's sum, message by message

sum-plus : (f g : ℕ → ℕ) (n : ℕ) → sum_to (λ k. f k + g k) n ≡ sum_to f n + sum_to g n
unfolding sum_to
sum-plus f g zero = refl
sum-plus f g (suc n) = omega (arith, sum-plus f g n)

sum_none : (n : ℕ) → sum_to (λ k. 0) n ≡ 0
unfolding sum_to
sum_none zero = refl
sum_none (suc n) = omega (arith, sum_none n)

module _ (plan : Plan) where
  -- one message more on a day
  day_next : (n : ℕ) → day_cost plan (suc n) ≡ day_cost plan n + number_cost plan (suc n)
  unfolding day_cost sum_to
  day_next n = go (leb (suc n) plan.allowance) refl
    where
      go : (t : Bool) → leb (suc n) plan.allowance ≡ t
          → sum_to (extra_price plan) (suc n - plan.allowance) ≡ sum_to (extra_price plan) (n - plan.allowance) + cond t 0 (price_of plan (step_of plan (suc n - plan.allowance)))
      go true e = ap (sum_to (extra_price plan)) (same n plan.allowance (leb-true (suc n) plan.allowance e)) ∙ none (sum_to (extra_price plan) (n - plan.allowance))
        where
          same : (n a : ℕ) → suc n ≤ a → suc n - a ≡ n - a
          same n a h = omega arith

          none : (s : ℕ) → s ≡ s + 0
          none s = omega arith
      go false e =
          let q : suc n - plan.allowance ≡ suc (n - plan.allowance) = more n plan.allowance (leb-false (suc n) plan.allowance e) in
          ap (sum_to (extra_price plan)) q ∙ ap (λ (x : ℕ). sum_to (extra_price plan) (n - plan.allowance) + price_of plan (step_of plan x)) (sym q)
        where
          more : (n a : ℕ) → a < suc n → suc n - a ≡ suc (n - a)
          more n a h = omega arith

  day_more : (n : ℕ) (t : Bool) → day_cost plan (n + cond t 1 0) ≡ day_cost plan n + cond t (number_cost plan (suc n)) 0
  day_more n true = ap (day_cost plan) (one n) ∙ day_next n
    where
      one : (n : ℕ) → n + 1 ≡ suc n
      one n = omega arith
  day_more n false = ap (day_cost plan) (none n) ∙ sym (none (day_cost plan n))
    where
      none : (n : ℕ) → n + 0 ≡ n
      none n = omega arith

  module _ (start : ℕ) where
    on-more : (before : List (List ℕ)) (m : List ℕ) (k : ℕ) → on_day start (before ++ (m ∷ [])) k ≡ on_day start before k + cond (in_day start k m) 1 0
    unfolding count
    on-more before m k = omega (arith, count-append (in_day start k) before (m ∷ []))

    cost-next : (before : List (List ℕ)) (m : List ℕ) → cost_of plan (on_day start (before ++ (m ∷ []))) ≡ cost_of plan (on_day start before) + message_cost plan start before m
    unfolding cost_of message_cost
    cost-next before m =
        sum_same (λ k. day_cost plan (on_day start (before ++ (m ∷ [])) k))
        (λ k. day_cost plan (on_day start before k) + cond (in_day start k m) (number_cost plan (suc (on_day start before k))) 0) days
        (λ k h. ap (day_cost plan) (on-more before m k) ∙ day_more (on_day start before k) (in_day start k m))
        ∙ sum-plus (λ k. day_cost plan (on_day start before k)) (λ k. cond (in_day start k m) (number_cost plan (suc (on_day start before k))) 0) days

    cost-all : (ms before : List (List ℕ)) → cost_of plan (on_day start (before ++ ms)) ≡ cost_of plan (on_day start before) + list_cost plan start before ms
    unfolding list_cost
    cost-all [] before = ap (λ (l : List (List ℕ)). cost_of plan (on_day start l)) (append-nil before) ∙ none (cost_of plan (on_day start before))
      where
        none : (n : ℕ) → n ≡ n + 0
        none n = omega arith
    cost-all (m ∷ ms) before =
        ap (λ (l : List (List ℕ)). cost_of plan (on_day start l)) (sym (append_assoc before (m ∷ []) ms))
        ∙ cost-all ms (before ++ (m ∷ []))
        ∙ ap (λ (n : ℕ). n + list_cost plan start (before ++ (m ∷ [])) ms) (cost-next before m)
        ∙ plus (cost_of plan (on_day start before)) (message_cost plan start before m) (list_cost plan start (before ++ (m ∷ [])) ms)
      where
        plus : (a b c : ℕ) → a + b + c ≡ a + (b + c)
        plus a b c = omega arith

    no-cost : cost_of plan (on_day start []) ≡ 0
    unfolding cost_of day_cost sum_to count
    no-cost = sum_same (λ k. day_cost plan (on_day start [] k)) (λ k. 0) days (λ k h. ap (sum_to (extra_price plan)) (none plan.allowance)) ∙ sum_none days
      where
        none : (a : ℕ) → 0 - a ≡ 0
        none a = omega arith

    by_message : (ms : List (List ℕ)) → cost_of plan (on_day start ms) ≡ list_cost plan start [] ms
    by_message ms = cost-all ms [] ∙ ap (λ (n : ℕ). n + list_cost plan start [] ms) no-cost ∙ none (list_cost plan start [] ms)
      where
        none : (n : ℕ) → 0 + n ≡ n
        none n = omega arith

-- ---- each message is on one day

sum_before : (d n : ℕ) → n ≤ d → sum_to (λ k. cond (eqb k d) 1 0) n ≡ 0
unfolding sum_to
sum_before d zero h = refl
sum_before d (suc n) h = omega (arith, sum_before d n (omega arith), none (eqb n d) (ne_eqb n d (λ q. omega arith)))
  where
    none : (t : Bool) → t ≡ false → ◌≡◌ {A = ℕ} (cond t 1 0) 0
    none t e = ap (λ (b : Bool). cond b 1 0) e

sum-once : (d n : ℕ) → d < n → sum_to (λ k. cond (eqb k d) 1 0) n ≡ 1
unfolding sum_to
sum-once d zero h = absurd (omega arith)
sum-once d (suc n) h = go (eqb n d) refl (λ l. sum-once d n l)
  where
    go : (t : Bool) → eqb n d ≡ t → (d < n → sum_to (λ k. cond (eqb k d) 1 0) n ≡ 1) → sum_to (λ k. cond (eqb k d) 1 0) n + cond t 1 0 ≡ 1
    go true e f = omega (arith, sum_before d n (omega (arith, eqb-true n d e)))
    go false e f = omega (arith, f (⊎_elim (λ q. absurd (eqb-false n d e (sym q))) (λ l. l) (eq-or-lt_of_le {n = d} {m = n} (omega arith))))

module _ (start : ℕ) (low : start ≤ latest_start) where
  once_each : (ms : List (List ℕ)) → all_in_month start ms ≡ true → sum_to (on_day start ms) days ≡ length ms
  unfolding all_in_month count
  once_each [] e = sum_none days
  once_each (m ∷ ms) e =
      let here = and_left (in_month start m) (all_in_month start ms) e in
      let d = day-under start (time_of m) low here in
      sum-plus (λ k. cond (in_day start k m) 1 0) (on_day start ms) days
      ∙ ap (λ (n : ℕ). n + sum_to (on_day start ms) days)
      (sum_same (λ k. cond (in_day start k m) 1 0) (λ k. cond (eqb k _) 1 0) days (λ k h. ap (λ (t : Bool). cond t 1 0) (only-day start (time_of m) low here k h)) ∙ sum-once _ days d)
      ∙ one (sum_to (on_day start ms) days) (length ms) (once_each ms (and_right (in_month start m) (all_in_month start ms) e))
    where
      one : (a b : ℕ) → a ≡ b → 1 + a ≡ suc b
      one a b e = omega arith

-- ---- how much

cost_le : (plan : Plan) → Sound plan → (f : ℕ → ℕ) (n : ℕ) → sum_to (λ k. day_cost plan (f k)) n ≤ sum_to f n * dearest
unfolding sum_to day_cost
cost_le plan ok f zero = omega arith
cost_le plan ok f (suc n) = omega (arith, cost_le plan ok f n, extras_le plan ok (f n - plan.allowance))

cost_most : (plan : Plan) → Sound plan → (f : ℕ → ℕ) (n : ℕ) → sum_to f days ≡ n → cost_of plan f ≤ n * dearest
unfolding cost_of
cost_most plan ok f n e = subst (λ (x : ℕ). cost_of plan f ≤ x * dearest) e (cost_le plan ok f days)

most : (fee cost n cents : ℕ) → fee ≤ 1000000 → cost ≤ n * 1000000 → cents ≡ fee + (cost + 999) / 1000 → cents ≤ 1000000 + 1000 * n
most fee cost n cents a b e = omega arith

-- ---- the claims

-- a call that is accepted: no cause applies
no_cause : (l : List ℕ) (plan : Plan) (z : ℤ) → charge_cause l plan z ≡ 0 → ((plan_ok plan && start_ok z) ≡ true) × (all_in_month (nat_abs z) (messages_of (events_of l)) ≡ true)
unfolding charge_cause month_cause
no_cause l plan z e = go (ltb most_record_bytes (length l)) (list_ok l) (plan_ok plan && start_ok z) (all_in_month (nat_abs z) (messages_of (events_of l))) e
  where
    go : (a b c d : Bool) → cond a long (month_cause b c d) ≡ 0 → (c ≡ true) × (d ≡ true)
    go true b c d e = absurd (omega (arith, e))
    go false false c d e = absurd (omega (arith, e))
    go false true false d e = absurd (omega (arith, e))
    go false true true false e = absurd (omega (arith, e))
    go false true true true e = (refl, refl)

pub every-sum : EverySum
unfolding answer number
every-sum l plan z r cents c e = go (charge_cause l plan z) refl (sym e ∙ c.answered)
  where
    go : (cause : ℕ) → charge_cause l plan z ≡ cause → accepted cents ≡ answer cause (cents_of plan (on_day (nat_abs z) (messages_of (events_of l)))) → Sum plan (nat_abs z) (messages_of (events_of l)) cents
    go zero k g =
        let ms = messages_of (events_of l) in
        let start = nat_abs z in
        let w = no_cause l plan z k in
        let ok = sound plan (and_left (plan_ok plan) (start_ok z) w.0) in
        let low = (second_is z (and_right (plan_ok plan) (start_ok z) w.0)).2 in
        let once = once_each start low ms w.1 in
        let is : cents ≡ cents_of plan (on_day start ms) = cc in
        let cost = by_message plan start ms in
        record {
          extra = rounded_up (cost_of plan (on_day start ms));
          is = is;
          covers = omega (arith, cost);
          least = omega (arith, cost);
          each_once = once;
          bound = most plan.fee (cost_of plan (on_day start ms)) (length ms) cents ok.fee_cheap (cost_most plan ok (on_day start ms) (length ms) once) is;
        }
    go (suc n) k g = absurd (omega (arith, ap number g))

swap : (x y z : Bool) → x && (y && z) ≡ y && (x && z)
swap true true z = refl
swap true false z = refl
swap false true z = refl
swap false false z = refl

in_perm : (start : ℕ) {a b : List (List ℕ)} → Permᴰ a b → all_in_month start a ≡ all_in_month start b
unfolding all_in_month
in_perm start Permᴰ.nil = refl
in_perm start (Permᴰ.cons e p) = cc (ap (in_month start) e, in_perm start p)
in_perm start (Permᴰ.swap {a} {b} {a'} {b'} {l} e g) = swap (in_month start a) (in_month start b) (all_in_month start l) ∙ cc (ap (in_month start) e, ap (in_month start) g)
in_perm start (Permᴰ.trans p q) = in_perm start p ∙ in_perm start q

pub any_order : AnyOrder
unfolding charge_cause
any_order l k plan z r r' o c c' =
    let p = those_perm is_message o.records in
    let u : list_ok l ≡ list_ok k = ok_reordered o in
    let n = in_perm (nat_abs z) p in
    let v = cents_same plan (on_day (nat_abs z) (messages_of (events_of l))) (on_day (nat_abs z) (messages_of (events_of k))) (λ j h. count_perm (in_day (nat_abs z) j) p) in
    c.answered ∙ cc (o.size, u, n, v) ∙ sym c'.answered

-- ---- parts

in_append : (start : ℕ) (a b : List (List ℕ)) → all_in_month start (a ++ b) ≡ (all_in_month start a && all_in_month start b)
unfolding all_in_month
in_append start [] b = refl
in_append start (m ∷ a) b = ap (λ (t : Bool). in_month start m && t) (in_append start a b) ∙ sym (and_assoc (in_month start m) (all_in_month start a) (all_in_month start b))

tallied-append : (start : ℕ) (a b : List (List ℕ)) (c : List ℕ) → tallied start c (a ++ b) ≡ tallied start (tallied start c a) b
unfolding tallied
tallied-append start [] b c = refl
tallied-append start (r ∷ a) b c = tallied-append start a b (stepped start c r)

pub parts_add : PartsAdd
parts_add start c l k h =
    let e = events-append l k h in
    record {
      ok = ap₂ ◌&&◌ (ap (λ (n : ℕ). eqb n 0) (left (length l) (length k) (length (l ++ k)) h (length-append l k))) (ap all_ok e ∙ ok_append (events_of l) (events_of k))
          ∙ swap (eqb (length k % record_size) 0) (all_ok (events_of l)) (all_ok (events_of k))
          ∙ ap (λ (t : Bool). (t && all_ok (events_of l)) && list_ok k) (sym (eq-eqb (length l % record_size) 0 h));
      within = ap (λ (es : List (List ℕ)). all_in_month start (messages_of es)) e ∙ ap (all_in_month start) (those-append is_message (events_of l) (events_of k)) ∙ in_append start (messages_of (events_of l)) (messages_of (events_of k));
      counts = ap (tallied start c) e ∙ tallied-append start (events_of l) (events_of k) c;
    }
  where
    left : (a b n : ℕ) → a % 120 ≡ 0 → n ≡ a + b → n % 120 ≡ b % 120
    left a b n h e = omega arith
