-- How many bursts a list can have.
use mathlib.Core.Logic.{⊎_elim}
use mathlib.Core.List.{List, [], ◌∷◌}
use Prim.Native.Nat.{ℕ, suc, ◌+◌, ◌*◌, ◌≤◌, ◌<◌}
use native.Mathlib.Omega.{arith}
use native.Mathlib.Nat.{mul-le-mul_right, suc-mul, zero-mul}
use lib.ListN.{length}
use lib.Dec.{leb}
use borrow.Author.Tests.{leb-true, leb-false}
use Rattle.ledger.specs.Types.{Burst}
use Rattle.ledger.specs.Ledger.{capacity}
use Rattle.ledger.specs.Room.{gap, Row, flush_frames}
use Rattle.ledger.proofs.Basics.{either}
use Rattle.ledger.proofs.Pigeon.{third}

-- each burst lasts 0.3 s and a sample
abbrev pub Proper : ℕ → List Burst → Type 0
Proper rate [] = Unit
Proper rate (b ∷ bs) = (b.start + third rate < b.end) × Proper rate bs

pub proper : (rate n p : ℕ) (bs : List Burst) → Row rate n p bs → Proper rate bs
proper rate n p [] r = tt
proper rate n p (b ∷ bs) r = (omega (arith, r.1), proper rate n (b.end + gap rate + 1) bs r.3)

-- each takes 0.3 s, 40 ms and two samples, but for the last one's gap
taking : (rate n p : ℕ) (bs : List Burst) → p ≤ n + gap rate + 1 → Row rate n p bs → length bs * (third rate + gap rate + 2) + p ≤ n + gap rate + 1
taking rate n p [] h r = omega (arith, zero-mul (third rate + gap rate + 2))
taking rate n p (b ∷ bs) h r =
    let i = taking rate n (b.end + gap rate + 1) bs (omega (arith, r.2)) r.3 in
    omega (arith, i, suc-mul (length bs) (third rate + gap rate + 2), r.0, r.1, r.2)

-- as many as 12 s allow
pub few : (rate n : ℕ) (bs : List Burst) → n ≤ capacity rate → Row rate n 0 bs → length bs ≤ flush_frames
few rate n bs h r = at_most_lem (length bs) (taking rate n 0 bs (omega arith) r)
  where
    at_most_lem : (m : ℕ) → m * (third rate + gap rate + 2) + 0 ≤ n + gap rate + 1 → m ≤ flush_frames
    at_most_lem m t =
        ⊎_elim
        (λ e. leb-true m flush_frames e)
        (λ e. let q : suc flush_frames * (third rate + gap rate + 2) ≤ m * (third rate + gap rate + 2) = mul-le-mul_right (third rate + gap rate + 2) (leb-false m flush_frames e) in absurd (omega arith))
        (either (leb m flush_frames))
