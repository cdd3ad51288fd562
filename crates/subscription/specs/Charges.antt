-- Subscription charges (02, request 13): the days of a month, what a plan takes for a day's messages, the cents, and what `charges` answers, a refusal's number or cents. Assumes nothing.
use Rattle.std.specs.Prelude.{ℕ, zero, suc, ◌+◌, ◌-◌, ◌*◌, ◌/◌, Bool, true, cond, ◌&&◌, List, [], ◌∷◌, leb, ltb, length, get_or, ℤ, pos, nat_abs, Float}
use Rattle.std.specs.Int.Signed.{le_z}
use Rattle.std.specs.Float.Ieee.{lt, le}
use Rattle.floats.specs.Number.{num}
use Rattle.limits.specs.Limits.{long, bad_records, bad_plan, outside_month, most_record_bytes}
use Rattle.record.specs.Readers.{time_of}
use Rattle.event_list.specs.Events.{events_of, messages_of, list_ok}
use Rattle.event_list.specs.Sums.{count}
use Rattle.subscription.specs.declared.Plan.{Plan}
use Rattle.subscription.specs.declared.Step.{Step}

-- ---- over the numbers below n

unfoldable pub sum_to : (ℕ → ℕ) → ℕ → ℕ
sum_to f zero = 0
sum_to f (suc n) = sum_to f n + f n

unfoldable pub all_to : (ℕ → Bool) → ℕ → Bool
all_to p zero = true
all_to p (suc n) = all_to p n && p n

-- ---- days

-- 'its days are 86,400 s each'
abbrev pub day_s : ℕ
day_s = 86400

-- 'its 31st day' is the month's last
abbrev pub days : ℕ
days = 31

-- 'the month starts at a stated whole second of the stream; its days are 86,400 s each from there': where day k begins, a whole number that binary64 holds
abbrev pub midnight : ℕ → ℕ → Float
midnight start k = num (start + day_s * k)

-- a time at or after the beginning of day a, and before that of day b
abbrev pub between : ℕ → ℕ → ℕ → Float → Bool
between start a b t = le (midnight start a) t && lt t (midnight start b)

-- 'a message on the boundary opens the new day'
abbrev pub in_day : ℕ → ℕ → List ℕ → Bool
in_day start k m = between start k (suc k) (time_of m)

-- not 'a message whose time is not a number, before the month or after its 31st day'; a NaN compares as false
abbrev pub in_month : ℕ → List ℕ → Bool
in_month start m = between start 0 days (time_of m)

unfoldable pub all_in_month : ℕ → List (List ℕ) → Bool
all_in_month start [] = true
all_in_month start (m ∷ ms) = in_month start m && all_in_month start ms

-- ---- the plan

-- 'one to eight steps'
abbrev pub most_steps : ℕ
most_steps = 8

-- 'a price or fee over 1,000,000'
abbrev pub dearest : ℕ
dearest = 1000000

-- 'a month's start not from 0 to 10^10'
abbrev pub latest_start : ℕ
latest_start = 10000000000

abbrev pub no_step : Step
no_step = record { upper = 0; price = 0 }

abbrev pub upper_of : Plan → ℕ → ℕ
upper_of plan j = (get_or plan.steps j no_step).upper

abbrev pub price_of : Plan → ℕ → ℕ
price_of plan j = (get_or plan.steps j no_step).price

-- how many upper counts are read: 'the last step is open and its upper count is not read'
abbrev pub uppers_read : Plan → ℕ
uppers_read plan = plan.count - 1

-- the step of a day's extra message number n, from 1 on: 'extra messages of each day pass through the steps from the lowest', so it is past each whose upper count is below n
unfoldable pub step_of : Plan → ℕ → ℕ
unfolding sum_to
step_of plan n = sum_to (λ j. cond (ltb (upper_of plan j) n) 1 0) (uppers_read plan)

-- thousandths of a cent for the extra messages of a day of n, those over 'an allowance of messages a day'
unfoldable pub day_cost : Plan → ℕ → ℕ
unfolding sum_to step_of
day_cost plan n = sum_to (λ i. price_of plan (step_of plan (suc i))) (n - plan.allowance)

-- a plan of 'one to eight steps' whose upper counts, those that are read, rise, and whose prices and fee are not 'over 1,000,000'
unfoldable pub plan_ok : Plan → Bool
unfolding all_to
plan_ok plan =
    (leb 1 plan.count && leb plan.count most_steps)
    && (leb plan.fee dearest
    && (all_to (λ j. leb (price_of plan j) dearest) plan.count && all_to (λ j. ltb (upper_of plan j) (upper_of plan (suc j))) (uppers_read plan - 1)))

abbrev pub start_ok : ℤ → Bool
start_ok z = le_z (pos 0) z && le_z z (pos latest_start)

-- ---- the month

-- 'rounded up to a cent'
abbrev pub rounded_up : ℕ → ℕ
rounded_up n = (n + 999) / 1000

-- the days' extras, 'added in thousandths', where day k has as many messages as n says
unfoldable pub cost_of : Plan → (ℕ → ℕ) → ℕ
unfolding sum_to day_cost
cost_of plan n = sum_to (λ k. day_cost plan (n k)) days

-- 'the fee and the month's extras, these .. rounded up to a cent a single time'
abbrev pub cents_of : Plan → (ℕ → ℕ) → ℕ
cents_of plan n = plan.fee + rounded_up (cost_of plan n)

-- how many messages of a list day k has: 'a list counts as one arm's, whatever devices it names'
abbrev pub on_day : ℕ → List (List ℕ) → ℕ → ℕ
on_day start ms k = count (in_day start k) ms

-- ---- the call

-- 12, 15 and 16, or 0, where these do not apply
unfoldable pub month_cause : Bool → Bool → Bool → ℕ
month_cause whole sound within = cond whole (cond sound (cond within 0 outside_month) bad_plan) bad_records

-- the first cause that applies, 0 where none does
unfoldable pub charge_cause : List ℕ → Plan → ℤ → ℕ
unfolding month_cause plan_ok
charge_cause l plan z =
    cond (ltb most_record_bytes (length l)) long
    (month_cause (list_ok l) (plan_ok plan && start_ok z) (all_in_month (nat_abs z) (messages_of (events_of l))))
