-- The causes for which `convolve` and `deconvolve` refuse, in their order, and what holds where none applies. Assumes nothing.
use mathlib.Core.Path.{◌≡◌, refl}
use mathlib.Core.Bool.{Bool, true, false, cond}
use mathlib.Core.List.{List}
use Prim.Native.Nat.{ℕ, ◌≤◌, ◌<◌}
use native.Mathlib.Omega.{arith}
use lib.Dec.{ltb}
use lib.ListN.{length}
use borrow.Author.Tests.{lt-ltb, le-ltb, ltb-false}
use Rattle.limits.specs.Limits.{short, long, bad_number, most_bits}
use Rattle.coding.specs.Bits.{are_bits}
use Rattle.coding.specs.Answers.{highest_rank, coding_cause}

module _ (bits : List ℕ) (rank room : ℕ) where
  pub short_out : room < length bits → short ≡ coding_cause bits rank room
  unfolding coding_cause
  short_out h = simp (lt-ltb _ _ h)

  module _ (a : length bits ≤ room) where
    pub long-bits : most_bits < length bits → long ≡ coding_cause bits rank room
    unfolding coding_cause
    long-bits h = simp (le-ltb _ _ a, lt-ltb _ _ h)

    module _ (b : length bits ≤ most_bits) where
      pub high-rank : highest_rank < rank → bad_number ≡ coding_cause bits rank room
      unfolding coding_cause
      high-rank h = simp (le-ltb _ _ a, le-ltb _ _ b, lt-ltb _ _ h)

      pub not-bits : rank ≤ highest_rank → are_bits bits ≡ false → bad_number ≡ coding_cause bits rank room
      unfolding coding_cause
      not-bits h e = simp (le-ltb _ _ a, le-ltb _ _ b, le-ltb _ _ h, e)

      pub accepted : rank ≤ highest_rank → are_bits bits ≡ true → 0 ≡ coding_cause bits rank room
      unfolding coding_cause
      accepted h e = simp (le-ltb _ _ a, le-ltb _ _ b, le-ltb _ _ h, e)

-- where no cause applies
pub record Accepted (bits : List ℕ) (rank room : ℕ) : Type 0 where
  pub fits : length bits ≤ room
  pub few : length bits ≤ most_bits
  pub ranked : rank ≤ highest_rank
  pub all : are_bits bits ≡ true

no_refusal : {A : Type 0} (n : ℕ) → 1 ≤ n → n ≡ 0 → A
no_refusal n h e = absurd (omega arith)

pub none : (bits : List ℕ) (rank room : ℕ) → coding_cause bits rank room ≡ 0 → Accepted bits rank room
unfolding coding_cause
none bits rank room e =
    go (ltb room (length bits)) (ltb most_bits (length bits)) (ltb highest_rank rank) (are_bits bits)
    (ltb-false room (length bits)) (ltb-false most_bits (length bits)) (ltb-false highest_rank rank) e refl
  where
    go : (a b c d : Bool) → (a ≡ false → length bits ≤ room) → (b ≡ false → length bits ≤ most_bits) → (c ≡ false → rank ≤ highest_rank)
        → cond a short (cond b long (cond c bad_number (cond d 0 bad_number))) ≡ 0 → are_bits bits ≡ d → Accepted bits rank room
    go true b c d f g h e x = no_refusal short (omega arith) e
    go false true c d f g h e x = no_refusal long (omega arith) e
    go false false true d f g h e x = no_refusal bad_number (omega arith) e
    go false false false false f g h e x = no_refusal bad_number (omega arith) e
    go false false false true f g h e x = record { fits = f refl; few = g refl; ranked = h refl; all = x }
