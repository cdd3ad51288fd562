-- REQUEST 13'S CLAIMS, over every call of `charges`: the cents are the fee and the least whole cents that cover what the messages of the list cost, one by one, and the order of the records doesn't matter.
-- `Call` is what the contract of `charges` ensures of a call; proofs/Contracts.antt takes it from the contract itself. Assumes nothing.
use Rattle.std.specs.Prelude.{◌≡◌, cond, Result, List, [], ◌∷◌, ◌++◌, ℕ, suc, ◌+◌, ◌-◌, ◌*◌, ◌≤◌, ◌<◌, leb, length, ℤ, nat_abs}
use Rattle.limits.specs.declared.Refusal.{Refusal}
use Rattle.limits.specs.Answer.{said, answer, accepted}
use Rattle.event_list.specs.Events.{events_of, messages_of, Reordered}
use Rattle.subscription.specs.declared.Plan.{Plan}
use Rattle.subscription.specs.Charges.{sum_to, days, in_day, price_of, step_of, cents_of, on_day, charge_cause}

-- a call: the records, the plan, the month's start, and its answer
pub record Call (l : List ℕ) (plan : Plan) (z : ℤ) (r : Result ℕ Refusal) : Type 0 where
  pub answered : said r ≡ answer (charge_cause l plan z) (cents_of plan (on_day (nat_abs z) (messages_of (events_of l))))

-- ---- THE THEOREMS

-- the price of a day's message number n, from 1 on: nothing up to the allowance, then that of the step of the extra message
abbrev pub number_cost : Plan → ℕ → ℕ
number_cost plan n = cond (leb n plan.allowance) 0 (price_of plan (step_of plan (n - plan.allowance)))

-- what a message costs behind those before it: its number in its day is one more than theirs
unfoldable pub message_cost : Plan → ℕ → List (List ℕ) → List ℕ → ℕ
unfolding sum_to
message_cost plan start before m = sum_to (λ k. cond (in_day start k m) (number_cost plan (suc (on_day start before k))) 0) days

-- what the messages of a list cost, one after the other, behind those before them
unfoldable pub list_cost : Plan → ℕ → List (List ℕ) → List (List ℕ) → ℕ
unfolding message_cost
list_cost plan start before [] = 0
list_cost plan start before (m ∷ ms) = message_cost plan start before m + list_cost plan start (before ++ (m ∷ [])) ms

-- 'the fee and the month's extras, these added in thousandths and rounded up to a cent a single time', 'this sum over the message list'
pub record Sum (plan : Plan) (start : ℕ) (ms : List (List ℕ)) (cents : ℕ) : Type 0 where
  pub extra : ℕ
  pub is : cents ≡ plan.fee + extra
  pub covers : list_cost plan start [] ms ≤ 1000 * extra
  pub least : 1000 * extra < list_cost plan start [] ms + 1000
  -- each message is on one day
  pub each_once : sum_to (on_day start ms) days ≡ length ms
  -- so that nothing overflows: a fee of a million cents at most, and a million thousandths for each message
  pub bound : cents ≤ 1000000 + 1000 * length ms

abbrev pub EverySum : Type 0
EverySum = (l : List ℕ) (plan : Plan) (z : ℤ) (r : Result ℕ Refusal) (cents : ℕ) → Call l plan z r → said r ≡ accepted cents → Sum plan (nat_abs z) (messages_of (events_of l)) cents

-- 'in whichever order its records come'
abbrev pub AnyOrder : Type 0
AnyOrder = (l k : List ℕ) (plan : Plan) (z : ℤ) (r r' : Result ℕ Refusal) → Reordered l k → Call l plan z r → Call k plan z r' → said r ≡ said r'
