-- The causes for which `deconvolve_bytes` refuses, in their order, and what holds where none applies. Assumes nothing.
use mathlib.Core.Path.{◌≡◌, refl}
use mathlib.Core.Bool.{Bool, true, false, cond}
use mathlib.Core.List.{List}
use Prim.Native.Nat.{ℕ, ◌≤◌, ◌<◌}
use native.Mathlib.Omega.{arith}
use lib.Dec.{ltb}
use lib.ListN.{length}
use borrow.Author.Tests.{lt-ltb, le-ltb, ltb-false}
use Rattle.limits.specs.Limits.{short, long, bad_number, most_bits}
use Rattle.coding.specs.Bits.{are_bits}
use Rattle.coding.specs.Answers.{highest_rank}
use Rattle.bytewise.specs.Answers.{bit_count, bytes_cause}

module _ (bytes rest : List ℕ) (rank room rest_room : ℕ) where
  abbrev cause : ℕ
  cause = bytes_cause bytes rest rank room rest_room

  pub short_out : room < length bytes → short ≡ cause
  unfolding bytes_cause
  short_out h = simp (lt-ltb _ _ h)

  module _ (a : length bytes ≤ room) where
    pub short-rest : rest_room < length rest → short ≡ cause
    unfolding bytes_cause
    short-rest h = simp (le-ltb _ _ a, lt-ltb _ _ h)

    module _ (b : length rest ≤ rest_room) where
      pub long-bits : most_bits < bit_count bytes rest → long ≡ cause
      unfolding bytes_cause
      long-bits h = simp (le-ltb _ _ a, le-ltb _ _ b, lt-ltb _ _ h)

      module _ (c : bit_count bytes rest ≤ most_bits) where
        pub high-rank : highest_rank < rank → bad_number ≡ cause
        unfolding bytes_cause
        high-rank h = simp (le-ltb _ _ a, le-ltb _ _ b, le-ltb _ _ c, lt-ltb _ _ h)

        pub not-bits : rank ≤ highest_rank → are_bits rest ≡ false → bad_number ≡ cause
        unfolding bytes_cause
        not-bits h e = simp (le-ltb _ _ a, le-ltb _ _ b, le-ltb _ _ c, le-ltb _ _ h, e)

        pub none-applies : rank ≤ highest_rank → are_bits rest ≡ true → 0 ≡ cause
        unfolding bytes_cause
        none-applies h e = simp (le-ltb _ _ a, le-ltb _ _ b, le-ltb _ _ c, le-ltb _ _ h, e)

-- where no cause applies
pub record Accepted (bytes rest : List ℕ) (rank room rest_room : ℕ) : Type 0 where
  pub fits : length bytes ≤ room
  pub rest-fits : length rest ≤ rest_room
  pub ranked : rank ≤ highest_rank
  pub all : are_bits rest ≡ true

no_refusal : {A : Type 0} (n : ℕ) → 1 ≤ n → n ≡ 0 → A
no_refusal n h e = absurd (omega arith)

pub none : (bytes rest : List ℕ) (rank room rest_room : ℕ) → bytes_cause bytes rest rank room rest_room ≡ 0 → Accepted bytes rest rank room rest_room
unfolding bytes_cause
none bytes rest rank room rest_room e =
    go (ltb room (length bytes)) (ltb rest_room (length rest)) (ltb most_bits (bit_count bytes rest)) (ltb highest_rank rank) (are_bits rest)
    (ltb-false room (length bytes)) (ltb-false rest_room (length rest)) (ltb-false highest_rank rank) e refl
  where
    go : (a b c d w : Bool) → (a ≡ false → length bytes ≤ room) → (b ≡ false → length rest ≤ rest_room) → (d ≡ false → rank ≤ highest_rank)
        → cond a short (cond b short (cond c long (cond d bad_number (cond w 0 bad_number)))) ≡ 0 → are_bits rest ≡ w → Accepted bytes rest rank room rest_room
    go true b c d w f g h e x = no_refusal short (omega arith) e
    go false true c d w f g h e x = no_refusal short (omega arith) e
    go false false true d w f g h e x = no_refusal long (omega arith) e
    go false false false true w f g h e x = no_refusal bad_number (omega arith) e
    go false false false false false f g h e x = no_refusal bad_number (omega arith) e
    go false false false false true f g h e x = record { fits = f refl; rest-fits = g refl; ranked = h refl; all = x }
