-- Lists of event records that are made from one of the receiver's, computed: the nearest message at equal distances, exact and rounded, none, the messages on air, and what is refused. Assumes nothing.
use Prim.Native.Nat.{ℕ, zero, suc, ◌+◌, ◌*◌, ◌<◌}
use mathlib.Core.Path.{◌≡◌, refl}
use mathlib.Core.Bool.{true, false}
use mathlib.Core.List.{List, [], ◌∷◌, ◌++◌}
use native.Mathlib.Omega.{arith}
use lib.ListN.{get_or, set}
use lib.Seq.{sets}
use lib.Ieee.{nan, inf, binary64, round, of_int, of_bits, add, sub, sum, lt, eq, le, neg}
use Rattle.floats.specs.Number.{num}
use Rattle.floats.specs.Trig.{magnitude}
use Rattle.endian.specs.Bytes.{bytes_of, number_of, number_at}
use Rattle.event_list.specs.Events.{records_of, events_of, all_ok}
use Rattle.grip.specs.Times.{is_finite}
use Rattle.grip.specs.Nearest.{qualifies, better, IsNearest, NoneQualifies, grip_cause, nearest_cause}
use Rattle.grip.specs.OnAir.{air_from, air_numbers, air_cause}
use Rattle.grip.proofs.OrderLaws.{clash}

-- a message of device 3, rank 1
abbrev message : List ℕ
message = bytes_of 120 0x000000aa2b4653c2000000000000000000000000000000000000000000000000000000000000000041f0624dd250dd2f41f0624dd239a9fc41f0624dd1d0dd2f41f0624dd1b9a9fc00ffff01c2a335fcffffdf7f0000000000007c80000000000000000000000000000000060000000300000002003e0202

-- the same at another time, by its bits
abbrev timed : ℕ → List ℕ
timed b = sets message 48 (bytes_of 8 b)

abbrev half : ℕ
half = 0x3fe0_0000_0000_0000

abbrev nine : ℕ
nine = 0x4022_0000_0000_0000

abbrev ten : ℕ
ten = 0x4024_0000_0000_0000

abbrev eleven : ℕ
eleven = 0x4026_0000_0000_0000

-- a frame at 10 s, messages at 11 s, 9 s, 9 s again and at no time at all
abbrev five : List ℕ
five = set (timed ten) 0 1 ++ (timed eleven ++ (timed nine ++ (timed nine ++ timed 0x7ff8_0000_0000_0000)))

-- of three at 1 s from a grip at 10 s it is the earlier, and of those the first; the frame is skipped
pub nearest_is_2 : IsNearest (num 10) (num 1) (events_of five) 2
unfolding records_of bytes_of number_at number_of of_bits of_int round is_finite le lt eq sub add neg sum magnitude
nearest_is_2 = record { there = omega arith; good = refl; best = best }
  where
    best : (j : ℕ) → j < 5 → qualifies (num 10) (num 1) (get_or (events_of five) j []) ≡ true → better (num 10) (get_or (events_of five) j []) j (get_or (events_of five) 2 []) 2 ≡ false
    best zero h q = clash false q refl
    best (suc zero) h q = refl
    best (suc (suc zero)) h q = refl
    best (suc (suc (suc zero))) h q = refl
    best (suc (suc (suc (suc zero)))) h q = refl
    best (suc (suc (suc (suc (suc j))))) h q = absurd (omega arith)

-- within half a second there is none
pub none_near : NoneQualifies (num 10) (of_bits binary64 half) (events_of five)
unfolding records_of bytes_of number_at number_of of_bits of_int round is_finite le lt eq sub add neg sum magnitude
none_near zero h = refl
none_near (suc zero) h = refl
none_near (suc (suc zero)) h = refl
none_near (suc (suc (suc zero))) h = refl
none_near (suc (suc (suc (suc zero)))) h = refl
none_near (suc (suc (suc (suc (suc j))))) h = absurd (omega arith)

-- messages at 0.5 s and at 0, a grip at 2^53 s: both distances are rounded to 2^53, so that the earlier is the nearest, though the other is nearer
abbrev two : List ℕ
two = timed half ++ timed 0

pub rounded-once : IsNearest (num 9007199254740992) (num 9007199254740992) (events_of two) 1
unfolding records_of bytes_of number_at number_of of_bits of_int round is_finite le lt eq sub add neg sum magnitude
rounded-once = record { there = omega arith; good = refl; best = best }
  where
    best : (j : ℕ) → j < 2 → qualifies (num 9007199254740992) (num 9007199254740992) (get_or (events_of two) j []) ≡ true
        → better (num 9007199254740992) (get_or (events_of two) j []) j (get_or (events_of two) 1 []) 1 ≡ false
    best zero h q = refl
    best (suc zero) h q = refl
    best (suc (suc j)) h q = absurd (omega arith)

-- span i of a message, with a rank, from a time to another
abbrev spanned : ℕ → ℕ → ℕ → ℕ → List ℕ
spanned i rank begin end = sets (set message (44 + i) rank) (64 + 16 * i) (bytes_of 8 begin ++ bytes_of 8 end)

-- from 9 s to 11 s; from 10 s to 11 s; rank 255; a frame; from no time at all
abbrev spans : List ℕ
spans = spanned 0 1 nine eleven ++ (spanned 2 0 ten eleven ++ (spanned 1 255 nine eleven ++ (set (spanned 0 1 nine eleven) 0 1 ++ spanned 0 1 0x7ff8_0000_0000_0000 eleven)))

-- a span's begin belongs to it, its end does not
pub on_air_lem : (air_numbers (num 9) spans ≡ 0 ∷ []) × (air_numbers (num 10) spans ≡ 0 ∷ 1 ∷ []) × (air_numbers (num 11) spans ≡ [])
unfolding air_from records_of bytes_of number_at number_of of_bits of_int round le lt eq
on_air_lem = (refl, refl, refl)

-- places for four of five; a byte too many, which comes before a time that is no number; that time; an infinite one; a negative distance; −0, which is 0
pub tested : (air_cause spans (num 9) 5 ≡ 0) × (air_cause spans (num 9) 4 ≡ 2) × (air_cause (0 ∷ spans) nan 5 ≡ 12) × (air_cause spans nan 5 ≡ 14)
    × (nearest_cause five (inf true) (num 1) ≡ 14) × (nearest_cause five (num 10) (neg (num 1)) ≡ 14) × (nearest_cause five (num 10) (neg (num 0)) ≡ 0)
unfolding air_cause nearest_cause grip_cause all_ok records_of bytes_of number_at number_of of_bits of_int round is_finite le lt eq neg
tested = (refl, refl, refl, refl, refl, refl, refl)
