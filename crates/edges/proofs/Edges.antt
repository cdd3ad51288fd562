-- The one theorem over 01's edges. Assumes nothing.
use mathlib.Core.Path.{◌≡◌, refl, ◌∙◌}
use mathlib.Core.Bool.{true, false}
use mathlib.Core.List.{List, [], ◌∷◌, ◌++◌}
use Prim.Native.Nat.{ℕ, ◌+◌}
use native.Mathlib.Omega.{arith}
use lib.Ieee.{Float, round, neg, add, sub, mul, div, lt, le, eq, of_int, of_bits, to_bits, to_unsigned}
use Rattle.floats.specs.Floor as floats
use Rattle.floats.specs.Floor.{round_half_up}
use Rattle.floats.specs.Trig.{magnitude}
use Rattle.floats.specs.Number.{num}
use Rattle.order.specs.Order.{place, key, kth}
use Rattle.order.specs.Sorted.{insert, sorted}
use Rattle.coding.specs.Bits.{digits, value, bytes_bits}
use Rattle.coding.specs.Crc.{onto, divisor, remainder, crc_remainder, crc_bits, crc_of}
use Rattle.coding.specs.Convolution.{deconvolved}
use Rattle.frame.specs.Sizes.{auth_size}
use Rattle.frame.specs.Header.{header_bytes}
use Rattle.bursts.specs.Levels.{noise_floor}
use Rattle.bursts.specs.Bursts.{Cluster, cluster, none, loud, clusters, long_enough, threshold, gap_samples, burst_of, bursts_in, bursts_of}
use Rattle.bursts.proofs.Runs.{one, joined, parted}
use Rattle.limits.specs.Answer.{answer}
use Rattle.cfo.specs.Cfo.{signed, mantissa, cf_fs, step_of, step_cause, step_hz, round_hz}
use Rattle.frequency_lists.specs.Lists.{last_or}
use Rattle.frequency_lists.specs.Marks.{retained}
use Rattle.frequency_measure.specs.Measured.{median, frame_of, frame_frequency, direct, middle, of_rank, frame1}
use Rattle.edges.specs.Edges.{options, floor, spans, heard, high, low, readings, measured, on_air, Edges}

-- ---- P5

over : Float
over = threshold options floor

high_is : loud over (neg (num 60)) ≡ true
unfolding over lt add neg of_int round
high_is = refl

low_is : loud over floor ≡ false
unfolding over lt add neg of_int round
low_is = refl

gap_is : gap_samples options 1000 ≡ 40
unfolding round_half_up floats.floor add mul div of_int of_bits round to_unsigned
gap_is = refl

by_clusters : (l : List Float) (cs : List Cluster) → clusters over 40 none 0 l ≡ cs → heard l ≡ spans (bursts_in l 1000 options floor cs)
unfolding bursts_of over
by_clusters l cs e = rw (gap_is, e)

-- what is heard of clusters, by their number
module _ (l : List Float) where
  none_heard : (f k : ℕ) → clusters over 40 none 0 l ≡ cluster f k ∷ [] → long_enough options 1000 (cluster f k) ≡ false → heard l ≡ []
  unfolding bursts_in spans
  none_heard f k e g = by_clusters l (cluster f k ∷ []) e ∙ rw g

  one_heard : (f k : ℕ) → clusters over 40 none 0 l ≡ cluster f k ∷ [] → long_enough options 1000 (cluster f k) ≡ true → heard l ≡ cluster f (k + 1) ∷ []
  unfolding bursts_in burst_of spans
  one_heard f k e g = by_clusters l (cluster f k ∷ []) e ∙ rw g

  two_heard : (f k g j : ℕ) → clusters over 40 none 0 l ≡ cluster f k ∷ cluster g j ∷ [] → long_enough options 1000 (cluster f k) ≡ true → long_enough options 1000 (cluster g j) ≡ true
      → heard l ≡ cluster f (k + 1) ∷ cluster g (j + 1) ∷ []
  unfolding bursts_in burst_of spans
  two_heard f k g j e a b = by_clusters l (cluster f k ∷ cluster g j ∷ []) e ∙ rw (a, b)

heard_is : (heard (low 1 ++ high 301) ≡ cluster 1 302 ∷ []) × (heard (low 1 ++ high 300) ≡ [])
    × (heard (low 1 ++ (high 301 ++ (low 40 ++ high 301))) ≡ cluster 1 643 ∷ [])
    × (heard (low 1 ++ (high 301 ++ (low 41 ++ high 301))) ≡ cluster 1 302 ∷ cluster 343 644 ∷ [])
unfolding lt le eq div of_int round
heard_is =
    let h = neg (num 60) in
    let q = neg (num 100) in (
      one_heard _ 1 301 (one over 40 h q high_is low_is 300) refl,
      none_heard _ 1 300 (one over 40 h q high_is low_is 299) refl,
      one_heard _ 1 642 (joined over 40 h q high_is low_is 300 40 300 (omega arith)) refl,
      two_heard _ 1 301 343 643 (parted over 40 h q high_is low_is 300 300) refl refl,
    )

-- THE THEOREM
pub edges : Edges
unfolding crc_of crc_bits crc_remainder remainder onto divisor digits value bytes_bits deconvolved signed answer step_cause step_hz step_of cf_fs mantissa noise_floor round_half_up floats.floor header_bytes auth_size on_air readings measured frame1 of_rank direct middle frame_frequency frame_of last_or median retained kth sorted insert key place round_hz magnitude round add sub mul div lt eq le neg of_int of_bits to_bits to_unsigned
edges =
    record {
      p1 = (refl, refl);
      p2 = (refl, refl, refl);
      p3 = refl;
      p4 = (refl, refl);
      p5 = heard_is;
      p6 = (refl, refl);
      p7 = refl;
      p8 = (refl, refl);
      p9 = λ device a b. (refl, refl);
      p10 = (refl, refl, refl);
    }
