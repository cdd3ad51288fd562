-- The examples, computed. Assumes nothing.
use Rattle.std.proofs.Common.{Some}
use mathlib.Core.Path.{◌≡◌, refl, sym, subst}
use mathlib.Core.Bool.{false}
use mathlib.Core.List.{List, [], ◌∷◌, map}
use Prim.Native.Nat.{ℕ, ◌+◌, ◌*◌, ◌≤◌}
use native.Mathlib.Omega.{arith}
use lib.IntN.{pos}
use lib.Ieee.{round, add, sub, mul, div, lt, le, eq, of_int, of_bits, to_bits, to_unsigned}
use Rattle.floats.specs.Floor.{floor, round_half_up}
use Rattle.floats.specs.Trig.{magnitude}
use Rattle.order.specs.Order.{place, key, kth}
use Rattle.order.specs.Sorted.{insert, sorted}
use Rattle.cfo.specs.Cfo.{signed, reading_hz, round_hz}
use Rattle.frequency_lists.specs.Lists.{last_or}
use Rattle.frequency_lists.specs.Marks.{retained}
use Rattle.frequency_measure.specs.Measured.{median, frame1}
use Rattle.register_error.specs.Bound.{RawReading, reading_of, distance, Corresponding, end, next, ReadTwice, frame1_readings, Answers, least, Bound}
use Rattle.register_error.specs.Examples.{on_air, read_at, readings, steady, step_off, lowest, highest, Instance, Examples}

-- the five that count
five : ℕ → ℕ → ℕ → ℕ → ℕ → List RawReading
five a b c d e = read_at 1500 a ∷ read_at 1508 b ∷ read_at 1516 c ∷ read_at 1524 d ∷ read_at 1532 e ∷ []

counted : (early a b c d e : ℕ) → frame1_readings 1000 on_air (readings early a b c d e) ≡ five a b c d e
unfolding five frame1_readings retained last_or round_half_up floor add mul round of_int of_bits to_unsigned
counted early a b c d e = refl

near_by : (d v w : ℕ) → distance (signed v) (signed w) ≤ d → (at : ℕ) → Corresponding d (read_at at v) (read_at at w)
near_by d v w h at = record { same = refl; close = h }

twice : (n early early' a b c d e a' b' c' d' e' : ℕ) → ReadTwice n (five a b c d e) (five a' b' c' d' e')
    → ReadTwice n (frame1_readings 1000 on_air (readings early a b c d e)) (frame1_readings 1000 on_air (readings early' a' b' c' d' e'))
twice n early early' a b c d e a' b' c' d' e' t =
    subst (λ (l : List RawReading). ReadTwice n l (frame1_readings 1000 on_air (readings early' a' b' c' d' e'))) (sym (counted early a b c d e)) (subst (ReadTwice n (five a b c d e)) (sym (counted early' a' b' c' d' e')) t)

one_pairs : ReadTwice 1 (five 0 3 1 2 0xfff) (five 1 2 2 3 0)
unfolding five signed
one_pairs =
    next (near_by 1 0 1 (omega arith) 1500) (next (near_by 1 3 2 (omega arith) 1508) (next (near_by 1 1 2 (omega arith) 1516) (next (near_by 1 2 3 (omega arith) 1524) (next (near_by 1 0xfff 0 (omega arith) 1532) end))))

wide_pairs : ReadTwice 120 (five 0xfc4 0xfc4 0xfc4 0xfc4 0xfc4) (five 60 60 60 60 60)
unfolding five signed
wide_pairs = let p = near_by 120 0xfc4 60 far in next (p 1500) (next (p 1508) (next (p 1516) (next (p 1524) (next (p 1532) end))))
  where
    far : distance (signed 0xfc4) (signed 60) ≤ 120
    far = omega arith

answer : (raw : List RawReading) (a : ℕ) → frame1 1000 (map reading_of raw) on_air false ≡ Some a → Answers 1000 raw on_air false a
unfolding frame1
answer raw a h = record { path = refl; answer = h }

steady-answer : frame1 1000 (map reading_of steady) on_air false ≡ Some 868130131
unfolding frame1 reading_hz round_hz median kth key place sorted insert last_or retained round_half_up floor magnitude add sub mul div lt le eq round of_int of_bits to_bits to_unsigned
steady-answer = refl

off-answer : frame1 1000 (map reading_of step_off) on_air false ≡ Some 868130263
unfolding frame1 reading_hz round_hz median kth key place sorted insert last_or retained round_half_up floor magnitude add sub mul div lt le eq round of_int of_bits to_bits to_unsigned
off-answer = refl

lowest-answer : frame1 1000 (map reading_of lowest) on_air false ≡ Some 868122124
unfolding frame1 reading_hz round_hz median kth key place sorted insert last_or retained round_half_up floor magnitude add sub mul div lt le eq round of_int of_bits to_bits to_unsigned
lowest-answer = refl

highest-answer : frame1 1000 (map reading_of highest) on_air false ≡ Some 868137876
unfolding frame1 reading_hz round_hz median kth key place sorted insert last_or retained round_half_up floor magnitude add sub mul div lt le eq round of_int of_bits to_bits to_unsigned
highest-answer = refl

one : Instance 1 steady step_off 868130131 868130263
one = record { u32 = omega arith; twice = twice 1 700 1400 0 3 1 2 0xfff 1 2 2 3 0 one_pairs; first = answer steady 868130131 steady-answer; second = answer step_off 868130263 off-answer }

wide : Instance 120 lowest highest 868122124 868137876
wide = record {
  u32 = omega arith;
  twice = twice 120 0 0 0xfc4 0xfc4 0xfc4 0xfc4 0xfc4 60 60 60 60 60 wide_pairs;
  first = answer lowest 868122124 lowest-answer;
  second = answer highest 868137876 highest-answer;
}

pub examples : Examples
examples = record { one_step = one; widest = wide; no_less = less }
  where
    less : (more : ℕ) → Bound more → least ≤ more
    less more h =
        let w : 11904 * distance (pos 868122124) (pos 868137876) ≤ 1562500 * 120 + more = h 120 1000 1000 lowest highest on_air on_air false false 868122124 868137876 wide.u32 wide.twice wide.first wide.second in
        omega arith
