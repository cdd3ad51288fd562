-- The two tests of a dip find the same dips in either sequence, and a segment computed in both. Assumes nothing.
use Rattle.std.proofs.Common.{◌≡◌, ℕ, zero, suc, ◌-◌, Bool, true, false, ◌&&◌, List, [], ◌∷◌, map, length, refl, ap, ◌∙◌}
use lib.Ieee.{Float, neg, round, add, sub, mul, div, lt, le, eq, ne, of_int, of_bits, to_unsigned}
use Rattle.floats.specs.Floor.{floor, round_half_up}
use Rattle.floats.specs.Fold.{max_from}
use Rattle.floats.specs.Number.{num}
use Rattle.rates.specs.Rates.{win_of, half_of}
use Rattle.dips.specs.Dips.{left_of, right_of, sides, lowest_of, neighbours, is_dip, indices_from, centre, dip_indices, depth_of, dip_at, found_in, dips_of}
use Rattle.dips.specs.Sequence.{sides_first, rust_dips, SameDips}
use Rattle.dips.proofs.DipLaws.{dips_are}

and_either : (a b : Bool) → a && b ≡ b && a
and_either true true = refl
and_either true false = refl
and_either false true = refl
and_either false false = refl

-- tests that agree take the same indices
same_indices : (f g : ℕ → Bool) → ((i : ℕ) → f i ≡ g i) → (n i : ℕ) → indices_from f n i ≡ indices_from g n i
unfolding indices_from
same_indices f g e zero i = refl
same_indices f g e (suc n) i = rw (e i, same_indices f g e n (suc i))

same_test : (level : Float) (win half : ℕ) (seg : List Float) (i : ℕ) → is_dip level win half seg i ≡ sides_first level win half seg i
unfolding is_dip sides_first
same_test level win half seg i = and_either (neighbours half seg i) (sides level win seg i)

pub same_dips : SameDips
unfolding dip_indices rust_dips
same_dips seg rate level =
    let win = win_of rate in
    let half = half_of rate in
    dips_are seg rate level ∙ ap (map (centre seg)) (same_indices (is_dip level win half seg) (sides_first level win half seg) (same_test level win half seg) (length seg - 1 - 1) 1)

-- ---- a segment at 200/s, where a side is 3 samples and the half window 1

-- 4 is a dip; 5, beside it, is deep and not the lowest; 8 is the lowest and not deep
segment : List Float
segment =
    neg (num 60) ∷ neg (num 60) ∷ neg (num 60) ∷ neg (num 80) ∷ neg (num 90) ∷ neg (num 80) ∷ neg (num 60) ∷ neg (num 60) ∷ neg (num 63) ∷ neg (num 60) ∷ []

windows : (win_of 200 ≡ 3) × (half_of 200 ≡ 1)
unfolding win_of half_of round_half_up floor add mul div round of_int of_bits to_unsigned
windows = (refl, refl)

passed : (neighbours 1 segment 4 ≡ true) × (neighbours 1 segment 5 ≡ false) × (neighbours 1 segment 8 ≡ true)
unfolding segment neighbours lowest_of lt eq round of_int neg
passed = (refl, refl, refl)

deep : (sides (neg (num 60)) 3 segment 4 ≡ true) × (sides (neg (num 60)) 3 segment 5 ≡ true) × (sides (neg (num 60)) 3 segment 8 ≡ false)
unfolding segment sides left_of right_of max_from sub add lt le eq round of_int neg
deep = (refl, refl, refl)

one_dip : (dips_of segment 200 (neg (num 60)) ≡ num 4 ∷ []) × (rust_dips segment 200 (neg (num 60)) ≡ num 4 ∷ [])
unfolding segment dips_of found_in dip_at depth_of dip_indices rust_dips indices_from is_dip sides_first centre win_of half_of round_half_up floor mul div to_unsigned neighbours lowest_of sides left_of right_of max_from add sub lt le eq ne round of_int of_bits neg
one_dip = (refl, refl)
