-- A month with eight event records, computed: its cents, in two orders, what its messages cost one by one, and what is refused. Assumes nothing.
use Prim.Native.Nat.{ℕ, zero, suc}
use lib.ListN.{get_or, drop}
use mathlib.Core.Path.{◌≡◌, refl}
use mathlib.Core.Bool.{true, false}
use mathlib.Core.List.{List, [], ◌∷◌, ◌++◌}
use lib.Seq.{sets}
use lib.IntN.{pos, negsuc}
use lib.Ieee.{round, of_int, of_bits, lt, le, neg}
use Rattle.endian.specs.Bytes.{bytes_of, number_of, number_at}
use Rattle.event_list.specs.Events.{records_of, events_of, messages_of, all_ok}
use Rattle.event_list.specs.Sums.{those, count}
use Rattle.subscription.specs.declared.Plan.{Plan}
use Rattle.subscription.specs.declared.Step.{Step}
use Rattle.subscription.specs.Charges.{sum_to, all_to, in_day, all_in_month, step_of, day_cost, plan_ok, cost_of, cents_of, on_day, month_cause, charge_cause}
use Rattle.subscription.specs.Claims.{message_cost, list_cost}

-- a frame, and a message with the time of a bit pattern
abbrev frame : List ℕ
frame = bytes_of 120 1

abbrev message : ℕ → List ℕ
message time = sets (bytes_of 120 0x0702) 48 (bytes_of 8 time)

-- 100 s, 50,000.5 s and the last number under 86,500; 86,500 itself, 100,000, 172,800 and 172,899.75 s
abbrev first : List ℕ
first = message 0x4059000000000000 ++ (message 0x40e86a1000000000 ++ message 0x40f51e3fffffffff)

abbrev second : List ℕ
second = message 0x40f51e4000000000 ++ (message 0x40f86a0000000000 ++ (message 0x4105180000000000 ++ message 0x41051b1e00000000))

abbrev all : List ℕ
all = first ++ (frame ++ second)

-- steps of these upper counts and prices, of 0 where a list ends
abbrev steps_of : ℕ → List ℕ → List ℕ → List Step
steps_of zero uppers prices = []
steps_of (suc n) uppers prices = record { upper = get_or uppers 0 0; price = get_or prices 0 0 } ∷ steps_of n (drop 1 uppers) (drop 1 prices)

-- two messages a day
abbrev plan_of : ℕ → ℕ → List ℕ → List ℕ → Plan
plan_of fee steps uppers prices = record { fee = fee; allowance = 2; count = steps; steps = steps_of 8 uppers prices }

-- 5.00, then one message a day at 0.7 cents, two at 0.4, the rest at 0.25; the last step's upper count is not read
abbrev plan : Plan
plan = plan_of 500 3 (1 ∷ 3 ∷ 0 ∷ []) (700 ∷ 400 ∷ 250 ∷ [])

-- from second 100 on: three messages on the first day and four on the second, 700 + (700 + 400) thousandths, 2 cents
pub charged : (charge_cause all plan (pos 100) ≡ 0) × (cost_of plan (on_day 100 (messages_of (events_of all))) ≡ 1800) × (cents_of plan (on_day 100 (messages_of (events_of all))) ≡ 502)
unfolding charge_cause month_cause plan_ok all_to all_in_month cost_of day_cost step_of sum_to count those records_of all_ok bytes_of number_at number_of of_bits of_int round lt le neg
charged = (refl, refl, refl)

pub other_order : cents_of plan (on_day 100 (messages_of (events_of (second ++ (first ++ frame))))) ≡ 502
unfolding cost_of day_cost step_of sum_to count those records_of bytes_of number_at number_of of_bits of_int round lt le
other_order = refl

-- the third and fourth messages of a day, one behind the other: 700, and 700 + 400
pub one_by_one : (list_cost plan 100 [] (messages_of (events_of first)) ≡ 700) × (list_cost plan 100 [] (messages_of (events_of second)) ≡ 1100)
unfolding list_cost message_cost step_of sum_to count those records_of bytes_of number_at number_of of_bits of_int round lt le
one_by_one = (refl, refl)

-- a message on the boundary opens the second day, and the number before it is in the first
pub boundary : (in_day 100 1 (message 0x40f51e4000000000) ≡ true) × (in_day 100 0 (message 0x40f51e4000000000) ≡ false) × (in_day 100 0 (message 0x40f51e3fffffffff) ≡ true)
unfolding bytes_of number_at number_of of_bits of_int round lt le
boundary = (refl, refl, refl)

-- no step, nine; upper counts that don't rise; a price and a fee over 1,000,000; a start before 0 and over 10^10
pub refused : (plan_ok (plan_of 500 0 [] []) ≡ false) × (plan_ok (plan_of 500 9 [] []) ≡ false)
    × (plan_ok (plan_of 500 3 (3 ∷ 3 ∷ 4 ∷ []) (700 ∷ [])) ≡ false) × (plan_ok (plan_of 500 3 (1 ∷ 3 ∷ []) (700 ∷ 1000001 ∷ [])) ≡ false) × (plan_ok (plan_of 1000001 1 [] []) ≡ false)
    × (charge_cause all plan (negsuc 0) ≡ 15) × (charge_cause all plan (pos 10000000001) ≡ 15)
unfolding charge_cause month_cause plan_ok all_to records_of all_ok bytes_of number_at number_of of_bits of_int round le neg
refused = (refl, refl, refl, refl, refl, refl, refl)

-- a message before the month, one at its end, and a NaN are refused, the number before the end is not; 12 comes before 15, and 15 before 16
pub outside : (charge_cause first plan (pos 101) ≡ 16) × (charge_cause (message 0x41446f7200000000) plan (pos 100) ≡ 16) × (charge_cause (message 0x7ff8000000000000) plan (pos 100) ≡ 16)
    × (charge_cause (message 0x41446f71ffffffff) plan (pos 100) ≡ 0) × (charge_cause (0 ∷ first) plan (negsuc 0) ≡ 12)
unfolding charge_cause month_cause plan_ok all_to all_in_month those records_of all_ok bytes_of number_at number_of of_bits of_int round lt le neg
outside = (refl, refl, refl, refl, refl)
