-- `find_dips` of demod.rs: local minima deep under both sides, half a bit apart, refined to sub-sample; and their depths (02, request 05). Assumes nothing.
use Rattle.std.specs.Prelude.{◌≡◌, ℕ, zero, suc, ◌+◌, ◌-◌, ◌*◌, min, Bool, true, false, cond, not, ◌&&◌, ◌||◌, List, [], ◌∷◌, ◌++◌, map, length, get_or, take, drop, is_nan, nat_lt, slice_index_or, Float}
use Rattle.std.proofs.Math.Seq.{slice}
use Rattle.std.specs.Float.{nan, binary64}
use Rattle.std.specs.Float.Ieee.{add, sub, mul, div, le, lt, eq, ne}
use Rattle.floats.specs.Fold.{max_of, max_from}
use Rattle.floats.specs.Number.{num, near}
use Rattle.limits.specs.Limits.{bad_rate, short, long, bad_sample, bad_number, buffer_s, scratch64}
use Rattle.limits.specs.Samples.{rate_ok, all_dbm}
use Rattle.limits.specs.Answer.{Answer, answer, leaves}
use Rattle.rates.specs.Rates.{win_of, half_of}
use Rattle.dips.specs.Numbers.{dip_db, dim_db, lowest_side, depths_at}

-- a.min(b), of numbers
abbrev pub min_of : Float → Float → Float
min_of a b = cond (lt b a) b a

-- side_max: the highest of the 1.5 bits before i, and of those after it
unfoldable pub left_of : ℕ → List Float → ℕ → Float
left_of win seg i = max_from lowest_side (slice (i - win) i seg)

unfoldable pub right_of : ℕ → List Float → ℕ → Float
right_of win seg i = max_from lowest_side (slice (i + 1) (min (i + 1 + win) (length seg)) seg)

-- strictly more than 6 dB under the lower side, and the higher side not more than 25 dB under the level
unfoldable pub sides : Float → ℕ → List Float → ℕ → Bool
unfolding left_of right_of
sides level win seg i =
    not (le (sub binary64 (min_of (left_of win seg i) (right_of win seg i)) dip_db) (slice_index_or seg i nan)
    || lt (max_of (left_of win seg i) (right_of win seg i)) (sub binary64 level dim_db))

-- x at index k speaks against a minimum v at i: it is lower, or equal and earlier
abbrev pub against : Float → ℕ → ℕ → Float → Bool
against v i k x = lt x v || (eq x v && nat_lt k i)

-- none of a list from index k on does
unfoldable pub lowest_of : Float → ℕ → ℕ → List Float → Bool
lowest_of v i k [] = true
lowest_of v i k (x ∷ xs) = cond (against v i k x) false (lowest_of v i (suc k) xs)

-- the lowest of those within the half window, and of equal ones the earliest
unfoldable pub neighbours : ℕ → List Float → ℕ → Bool
unfolding lowest_of
neighbours half seg i = lowest_of (slice_index_or seg i nan) i (i - half) (slice (i - half) (min (i + half + 1) (length seg)) seg)

-- 02, request 02: "The neighbours within the half window are to be compared first and the side levels after." specs/Sequence.antt has the Rust's sequence.
unfoldable pub is_dip : Float → ℕ → ℕ → List Float → ℕ → Bool
unfolding sides neighbours
is_dip level win half seg i = neighbours half seg i && sides level win seg i

-- those of the n indices from i on that pass a test
unfoldable pub indices_from : (ℕ → Bool) → ℕ → ℕ → List ℕ
indices_from test zero i = []
indices_from test (suc n) i = cond (test i) (i ∷ indices_from test n (suc i)) (indices_from test n (suc i))

-- the dips among the indices 1 to length - 2
unfoldable pub dip_indices : List Float → ℕ → Float → List ℕ
unfolding is_dip indices_from
dip_indices seg rate level = indices_from (is_dip level (win_of rate) (half_of rate) seg) (length seg - 1 - 1) 1

-- a dip's centre: the lowest place of the parabola through it and the samples beside it
unfoldable pub centre : List Float → ℕ → Float
centre seg i =
    let a = get_or seg (i - 1) nan in
    let v = get_or seg i nan in
    let c = get_or seg (i + 1) nan in
    let denom = add binary64 (sub binary64 a (mul binary64 (num 2) v)) c in
    add binary64 (num i) (cond (ne denom (num 0)) (div binary64 (mul binary64 (near 1 2) (sub binary64 a c)) denom) (num 0))

-- 02, request 05: "Each dip carries its depth, the lower side level minus its own, rounded once in the levels' own width": binary64, since demod.rs
-- widens the samples before it compares levels
unfoldable pub depth_of : ℕ → List Float → ℕ → Float
unfolding left_of right_of
depth_of win seg i = sub binary64 (min_of (left_of win seg i) (right_of win seg i)) (slice_index_or seg i nan)

pub record Dip : Type 0 where
  pub at : Float
  pub depth : Float

unfoldable pub dip_at : ℕ → List Float → ℕ → Dip
unfolding centre depth_of
dip_at win seg i = record { at = centre seg i; depth = depth_of win seg i }

-- the dips of a burst
unfoldable pub found_in : List Float → ℕ → Float → List Dip
unfolding dip_indices dip_at
found_in seg rate level = map (dip_at (win_of rate) seg) (dip_indices seg rate level)

-- where dips are, and how deep
abbrev pub positions_of : List Dip → List Float
positions_of ds = map (λ d. d.at) ds

abbrev pub depths_of : List Dip → List Float
depths_of ds = map (λ d. d.depth) ds

unfoldable pub dips_of : List Float → ℕ → Float → List Float
unfolding found_in
dips_of seg rate level = positions_of (found_in seg rate level)

-- a list stands in the front of a slice, n long, and past it the slice is as it was
pub record Written (found old : List Float) (n : ℕ) (now : List Float) : Type 0 where
  pub count : n ≡ length found
  pub holds : now ≡ found ++ drop n old

-- n dips stand in a slice: where they are in its front, how deep from place 3,000 on
pub record Stored (found : List Dip) (old : List Float) (n : ℕ) (now : List Float) : Type 0 where
  pub positions : Written (positions_of found) (take depths_at old) n (take depths_at now)
  pub depths : Written (depths_of found) (drop depths_at old) n (drop depths_at now)

-- the first cause that applies to `find_dips`, 0 where none does
unfoldable pub dip_cause : List Float → ℕ → Float → ℕ → ℕ
dip_cause seg rate level room =
    cond (not (rate_ok rate)) bad_rate
    (cond (nat_lt room scratch64) short
    (cond (nat_lt (buffer_s * rate) (length seg)) long
    (cond (not (all_dbm seg)) bad_sample
    (cond (is_nan level) bad_number
    0))))

-- the answer of `find_dips`: how many dips
unfoldable pub dip_answer : List Float → ℕ → Float → ℕ → Answer ℕ
unfolding found_in dip_cause
dip_answer seg rate level room = answer (dip_cause seg rate level room) (length (found_in seg rate level))

-- a list in the front of places, the rest as it was
abbrev pub laid : List Float → List Float → List Float
laid l old = l ++ drop (length l) old

-- the slice lent for the dips after a call: where they are in its front, how deep from place 3,000 on, the rest is kept
unfoldable pub dips_after : List Float → ℕ → Float → List Float → List Float
unfolding found_in dip_cause
dips_after seg rate level old =
    leaves (dip_cause seg rate level (length old))
    (laid (positions_of (found_in seg rate level)) (take depths_at old) ++ laid (depths_of (found_in seg rate level)) (drop depths_at old))
    old
