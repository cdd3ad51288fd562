-- What push_raw hands in is always valid.
use mathlib.Core.Path.{◌≡◌, refl}
use mathlib.Core.Logic.{⊎_elim}
use mathlib.Core.List.{List, [], ◌∷◌, map}
use mathlib.Core.Bool.{Bool, true, ◌&&◌}
use Prim.Native.Nat.{ℕ, zero, suc, ◌<◌}
use native.Mathlib.Omega.{arith}
use lib.Dec.{leb, eqb}
use lib.Ieee.{neg, div, of_int, of_bits, le, lt, eq}
use borrow.Author.Tests.{eqb-true, eqb-false, leb-true, leb-false}
use Rattle.limits.specs.Samples.{is_dbm, all_dbm}
use Rattle.ledger.specs.Ledger.{dbm_of}
use Rattle.ledger.specs.Room.{Below}
use Rattle.ledger.proofs.Basics.{either, and_true}

-- all numbers below n pass
abbrev upto : ℕ → (ℕ → Bool) → Bool
upto zero p = true
upto (suc n) p = p n && upto n p

upto_at : (n : ℕ) (p : ℕ → Bool) (i : ℕ) → upto n p ≡ true → i < n → p i ≡ true
upto_at zero p i e h = absurd (omega arith)
upto_at (suc n) p i e h =
    let a = and_true (p n) (upto n p) e in
    ⊎_elim
    (λ g. let q : i ≡ n = eqb-true i n g in rw q a.0)
    (λ g. upto_at n p i a.1 (less (eqb-false i n g)))
    (either (eqb i n))
  where
    less : (i ≡ n → ⊥) → i < n
    less f = ⊎_elim (λ g. leb-true (suc i) n g) (λ g. let k = leb-false (suc i) n g in absurd (f (omega arith))) (either (leb (suc i) n))

table : upto 256 (λ b. is_dbm (dbm_of b)) ≡ true
unfolding dbm_of div neg of_int of_bits le lt eq
table = refl

pub raw-valid : (bs : List ℕ) → Below 256 bs → all_dbm (map dbm_of bs) ≡ true
unfolding all_dbm
raw-valid [] w = refl
raw-valid (b ∷ bs) w = rw (upto_at 256 (λ b. is_dbm (dbm_of b)) b table w.0) (raw-valid bs w.1)
