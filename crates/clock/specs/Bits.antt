-- `burst_bits` of demod.rs: the bits between the points of the clock, and what it hands over. Assumes nothing.
use Rattle.std.specs.Prelude.{ℕ, zero, suc, ◌-◌, ◌*◌, ◌/◌, min, Bool, false, cond, not, ◌||◌, List, [], ◌∷◌, ◌++◌, map, length, take, drop, ℤ, pos, negsuc, ◌-ℤ◌, ◌==◌, nat_lt, slice_index_or, Float, Option, None, Some}
use Rattle.std.proofs.Math.IntN.{suc_ℤ}
use Rattle.std.specs.Float.{nan, binary64}
use Rattle.std.specs.Float.Ieee.{sub, mul, div, lt, to_signed}
use Rattle.floats.specs.Floor.{floor, round_half_up}
use Rattle.floats.specs.Number.{num}
use Rattle.limits.specs.Limits.{bad_rate, short, long, bad_sample, buffer_s, most_bits, scratch64}
use Rattle.limits.specs.Samples.{rate_ok, all_dbm}
use Rattle.order.specs.Order.{kth}
use Rattle.rates.specs.Numbers.{level_quantile}
use Rattle.rates.specs.Rates.{nominal_of}
use Rattle.bursts.specs.Levels.{quantile}
use Rattle.dips.specs.Dips.{Dip, found_in, positions_of}
use Rattle.clock.specs.Numbers.{enough_dips, enough_points, end_db, million}
use Rattle.clock.specs.Clock.{anchor, lost, as_index, at_most, Point, BitClock, first_index, last_index, start_clock, track}
use Rattle.limits.specs.Answer.{Answer, answer}
use Rattle.clock.specs.declared.BurstBits.{BurstBits}

-- the last of the samples 0 to i that is not under the limit, 0 where there is none
unfoldable pub last_high : Float → List Float → ℕ → ℕ
last_high limit seg zero = 0
last_high limit seg (suc i) = cond (lt (slice_index_or seg (suc i) nan) limit) (last_high limit seg i) (suc i)

-- floor((last_high - phase) / period)
unfoldable pub end_index : Float → List Float → Float → Float → Float
unfolding last_high
end_index level seg period phase =
    floor (div binary64 (sub binary64 (num (last_high (sub binary64 level end_db) seg (length seg - 1))) phase) period)

-- last.max(end)
unfoldable pub larger : ℤ → ℤ → ℤ
unfolding at_most
larger j k = cond (at_most j k) k j

-- n indexes, from k on
unfoldable pub upward : ℤ → ℕ → List ℤ
upward k zero = []
upward k (suc n) = k ∷ upward (suc_ℤ k) n

-- how many indexes a range has: none where its end is before its first
abbrev pub positive_part : ℤ → ℕ
positive_part (pos n) = n
positive_part (negsuc n) = 0

-- first..=end
unfoldable pub indexes : ℤ → ℤ → List ℤ
unfolding upward
indexes first end = upward first (positive_part (suc_ℤ end -ℤ first))

-- j == k
unfoldable pub same : ℤ → ℤ → Bool
same (pos m) (pos n) = m == n
same (pos m) (negsuc n) = false
same (negsuc m) (pos n) = false
same (negsuc m) (negsuc n) = m == n

-- on_grid.contains(&k)
unfoldable pub on_grid : ℤ → List Point → Bool
unfolding same
on_grid k [] = false
on_grid k (p ∷ ps) = same k p.index || on_grid k ps

-- a dip on a bit boundary means data bit 0, no dip means 1
unfoldable pub bit_at : List Point → ℤ → ℕ
unfolding on_grid
bit_at ps k = cond (on_grid k ps) 0 1

-- the first preamble bit has no phase reference: a 1, then the bits from the first point to the end
unfoldable pub all_bits : List Point → ℤ → List ℕ
unfolding first_index last_index larger indexes bit_at
all_bits ps end = 1 ∷ map (bit_at ps) (indexes (first_index ps) (larger (last_index ps) end))

-- round((period / nominal - 1) * 1e6) as i32
unfoldable pub ppm_of : Float → Float → ℤ
ppm_of period nominal = to_signed 31 (round_half_up (mul binary64 (sub binary64 (div binary64 period nominal) (num 1)) million))

-- 02, request 05: "a burst's bits carry the median of its accepted dips, index length/2", of their sorted depths
unfoldable pub median_depth : List Point → Float
median_depth ps = kth binary64 (map (λ p. p.dip.depth) ps) (length ps / 2)

-- the Rust's `BurstBits`, a bit as 0 or 1, with the depth, and its `Option`
pub record Recovered : Type 0 where
  pub bits : List ℕ
  pub period : Float
  pub ppm : ℤ
  pub level : Float
  pub dips : ℕ
  pub depth : Float

abbrev pub Outcome : Type 0
Outcome = Option Recovered

-- from the clock: none where the end's index is lost
unfoldable pub ended : List Float → ℕ → Float → BitClock → Outcome
unfolding lost end_index all_bits ppm_of median_depth
ended seg rate level c =
    cond (lost (end_index level seg c.period c.phase)) None
    (Some (record {
      bits = all_bits c.points (as_index (end_index level seg c.period c.phase));
      period = c.period;
      ppm = ppm_of c.period (nominal_of rate);
      level = level;
      dips = length c.points;
      depth = median_depth c.points;
    }))

-- none under 8 points
unfoldable pub clocked : List Float → ℕ → Float → Option BitClock → Outcome
unfolding ended
clocked seg rate level None = None
clocked seg rate level (Some c) = cond (nat_lt (length c.points) enough_points) None (ended seg rate level c)

-- from the dips: none under 8
unfoldable pub from_dips : List Float → ℕ → Float → List Dip → Outcome
unfolding clocked anchor start_clock track
from_dips seg rate level ds =
    cond (nat_lt (length ds) enough_dips) None
    (clocked seg rate level (track (start_clock (nominal_of rate) (anchor (nominal_of rate) (slice_index_or (positions_of ds) 0 nan) (positions_of ds))) ds))

-- the burst's level is the value at 0.9 of its sorted samples; no samples have none
unfoldable pub outcome : List Float → ℕ → Outcome
unfolding from_dips quantile
outcome [] rate = None
outcome (x ∷ l) rate = from_dips (x ∷ l) rate (quantile level_quantile (x ∷ l)) (found_in (x ∷ l) rate (quantile level_quantile (x ∷ l)))

-- what it leaves in the bits: the first 1,024, the rest kept
unfoldable pub handed : Outcome → List ℕ → List ℕ
handed None old = old
handed (Some b) old = take most_bits b.bits ++ drop (min most_bits (length b.bits)) old

-- what is answered beside the bits
unfoldable pub values_of : Outcome → Option BurstBits
values_of None = None
values_of (Some b) = Some (record { count = length b.bits; period = b.period; clock_error_ppm = b.ppm; level = b.level; points = b.dips; depth = b.depth })

-- the first cause that applies to `burst_bits`, 0 where none does: room for 1,024 bits, 12 × rate f32 and 6,000 f64 is lent
unfoldable pub bits_cause : List Float → ℕ → ℕ → ℕ → ℕ → ℕ
bits_cause seg rate bits s32 s64 =
    cond (not (rate_ok rate)) bad_rate
    (cond (nat_lt bits most_bits || (nat_lt s32 (buffer_s * rate) || nat_lt s64 scratch64)) short
    (cond (nat_lt (buffer_s * rate) (length seg)) long
    (cond (not (all_dbm seg)) bad_sample
    0)))

-- the answer of `burst_bits`; no bits is an ordinary one
abbrev pub bits_answer : List Float → ℕ → ℕ → ℕ → ℕ → Answer (Option BurstBits)
bits_answer seg rate bits s32 s64 = answer (bits_cause seg rate bits s32 s64) (values_of (outcome seg rate))
