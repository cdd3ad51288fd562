-- Scaffolding. What the functions that gather into scratch ask, and what they leave. Assumes nothing.
use Rattle.std.specs.Prelude.{ℕ, ◌≤◌, ◌≡◌, Bool, true, ◌&&◌, List, map, eqb, length, take, drop, Float}
use Rattle.frequency_lists.specs.declared.Reading.{Reading}
use Rattle.frequency_lists.specs.Lists.{all_numbers}
use Rattle.frequency_lists.specs.Marks.{retained}
use Rattle.frequency_measure.specs.Measured.{inside}

-- the readings that pass a test
abbrev pub passing : (Reading → Bool) → List Reading → List Reading
passing p l = retained (map p l) l

-- those of a frame, and those of them against one receiver frequency
abbrev pub in_frame : ℕ → ℕ → List Reading → List Reading
in_frame first past l = passing (λ (x : Reading). inside first past x.at) l

abbrev pub of_frame : ℕ → ℕ → ℕ → List Reading → List Reading
of_frame first past lo l = passing (λ (x : Reading). inside first past x.at && eqb x.lo lo) l

abbrev pub los : List Reading → List ℕ
los l = map (λ (x : Reading). x.lo) l

-- the numbers l in front of the scratch; what lies behind them stays
pub record Front (l out : List Float) (r : ℕ) (out' : List Float) : Type 0 where
  pub count : r ≡ length l
  pub fits : r ≤ length out'
  pub front : take r out' ≡ l
  pub behind : drop r out' ≡ drop r out
  pub size : length out' ≡ length out

-- scratch for every reading, none of whose frequencies is a NaN
pub record Free (readings : List Reading) (out : List Float) : Type 0 where
  pub room : length readings ≤ length out
  pub numbers : all_numbers readings ≡ true
