-- The row of a device as its messages come, and how far its sums may lie from 0. Assumes nothing.
use Rattle.std.proofs.Common.{◌≡◌, ℕ, ◌*◌, ◌^◌, ◌<◌, ◌≤◌, Bool, true, false, eqb, List, [], ◌∷◌, ◌++◌, length, ℤ, ◌+ℤ◌, sym, ap, ◌∙◌, arith, lit<}
use lib.Signed.{mag}
use lib.Ieee.{binary64, mul}
use lib.Ieee.Casts.{to_signed_in}
use Rattle.floats.specs.Number.{num}
use Rattle.floats.specs.Floor.{floor}
use Rattle.record.specs.Readers.{ppm_of, rssi_of}
use Rattle.event_list.specs.Sums.{sum_of}
use Rattle.event_list.proofs.SumLaws.{sum-append, sum_one}
use Rattle.fleet_sheet.specs.Fleet.{ranks_of, half_decibels, halves_of, one_if, has_ranks, each, min_z, max_z, over_from, over, row_from}
use Rattle.fleet_sheet.specs.Table.{single, merge, Small}
use Rattle.fleet_sheet.proofs.NumberLaws.{sum-le, min_assoc, max_assoc, min_comm, max_comm}

-- ---- how far from 0

one_lt : (t : Bool) → mag (one_if t) < 2 ^ 31
one_lt true = lit< tt
one_lt false = lit< tt

ranks-lt : (k : ℕ) (m : List ℕ) → mag (has_ranks k m) < 2 ^ 31
ranks-lt k m = one_lt (eqb (ranks_of m) k)

each_lt : (m : List ℕ) → mag (each m) < 2 ^ 31
each_lt m = lit< tt

halves_lt : (m : List ℕ) → mag (halves_of m) < 2 ^ 31
unfolding half_decibels
halves_lt m = to_signed_in 31 (floor (mul binary64 (rssi_of m) (num 2)))

wide : (a : ℕ) → a < 2 ^ 31 → a < 2 ^ 62
wide a h = omega arith

pub single-small : (m : List ℕ) → Small (single m)
single-small m = record {
  messages-small = lit< tt;
  one_small = wide (mag (has_ranks 1 m)) (ranks-lt 1 m);
  two_small = wide (mag (has_ranks 2 m)) (ranks-lt 2 m);
  three_small = wide (mag (has_ranks 3 m)) (ranks-lt 3 m);
  halves_small = wide (mag (halves_of m)) (halves_lt m);
}

sum_near : {A : Type 0} (f : A → ℤ) → ((x : A) → mag (f x) < 2 ^ 31) → (l : List A) → mag (sum_of f l) ≤ length l * 2 ^ 31
unfolding sum_of
sum_near f h [] = omega arith
sum_near f h (x ∷ l) = omega (arith, sum-le (f x) (sum_of f l), h x, sum_near f h l)

sum-small : {A : Type 0} (f : A → ℤ) → ((x : A) → mag (f x) < 2 ^ 31) → (l : List A) → length l ≤ 2 ^ 20 → mag (sum_of f l) < 2 ^ 62
sum-small f h l n = omega (arith, sum_near f h l)

pub row_small : (l : List (List ℕ)) → length l ≤ 2 ^ 20 → Small (row_from l)
unfolding row_from
row_small l n = record {
  messages-small = sum-small each each_lt l n;
  one_small = sum-small (has_ranks 1) (ranks-lt 1) l n;
  two_small = sum-small (has_ranks 2) (ranks-lt 2) l n;
  three_small = sum-small (has_ranks 3) (ranks-lt 3) l n;
  halves_small = sum-small halves_of halves_lt l n;
}

-- ---- one message more

sum_more : {A : Type 0} (f : A → ℤ) (l : List A) (x : A) → sum_of f (l ++ (x ∷ [])) ≡ sum_of f l +ℤ f x
sum_more f l x = sum-append f l (x ∷ []) ∙ ap (λ (z : ℤ). sum_of f l +ℤ z) (sum_one f x)

from_more : {A : Type 0} (op : ℤ → ℤ → ℤ) → ((a b c : ℤ) → op (op a b) c ≡ op a (op b c)) → ((a b : ℤ) → op a b ≡ op b a) → (f : A → ℤ) (z : ℤ) (l : List A) (x : A)
    → over_from op f z (l ++ (x ∷ [])) ≡ op (over_from op f z l) (f x)
unfolding over_from
from_more op assoc comm f z [] x = comm (f x) z
from_more op assoc comm f z (y ∷ l) x = ap (op (f y)) (from_more op assoc comm f z l x) ∙ sym (assoc (f y) (over_from op f z l) (f x))

over_more : {A : Type 0} (op : ℤ → ℤ → ℤ) → ((a b c : ℤ) → op (op a b) c ≡ op a (op b c)) → ((a b : ℤ) → op a b ≡ op b a) → (f : A → ℤ) (y : A) (l : List A) (x : A)
    → over op f ((y ∷ l) ++ (x ∷ [])) ≡ op (over op f (y ∷ l)) (f x)
unfolding over
over_more op assoc comm f y l x = from_more op assoc comm f (f y) l x

pub row_one : (m : List ℕ) → row_from (m ∷ []) ≡ single m
unfolding row_from over over_from
row_one m = cc (sum_one each m, sum_one (has_ranks 1) m, sum_one (has_ranks 2) m, sum_one (has_ranks 3) m, sum_one halves_of m)

pub row_more : (m₀ : List ℕ) (l : List (List ℕ)) (m : List ℕ) → row_from ((m₀ ∷ l) ++ (m ∷ [])) ≡ merge (row_from (m₀ ∷ l)) (single m)
unfolding row_from
row_more m₀ l m =
    cc (
      sum_more each (m₀ ∷ l) m,
      sum_more (has_ranks 1) (m₀ ∷ l) m,
      sum_more (has_ranks 2) (m₀ ∷ l) m,
      sum_more (has_ranks 3) (m₀ ∷ l) m,
      sum_more halves_of (m₀ ∷ l) m,
      over_more min_z min_assoc min_comm ppm_of m₀ l m,
      over_more max_z max_assoc max_comm ppm_of m₀ l m,
    )
