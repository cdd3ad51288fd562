use mathlib.Core.Path.{◌≡◌, refl, sym, ap, ◌∙◌}
use mathlib.Core.List.{List, map}
use Prim.Native.Nat.{ℕ, ◌+◌, ◌-◌, ◌<◌, ◌≤◌}
use native.Mathlib.Omega.{arith}
use mathlib.Core.Bool.{false}
use lib.ListN.{length, take, drop, get_or, length-drop}
use lib.Seq.{get_or-drop, get_or-take, length-take-le}
use Rattle.coding.specs.Bits.{odd, bit_of, value}
use Rattle.coding.proofs.BitLaws.{bit_at, length-map-odd}
use Rattle.coding.proofs.Values.{bit_of_lem, value-below, value-next}
use Rattle.frame.proofs.kinds.word.Goals as goal

pub loop-b-init : goal.loop-b-init
unfolding value
loop-b-init c = refl

-- the bits that are looked at
part_long : (at : ℕ) (l : List ℕ) → at + 16 ≤ length l → length (take 16 (drop at l)) ≡ 16
part_long at l h = length-take-le 16 (drop at l) (omega (arith, length-drop at l))

here : (at n j : ℕ) (l : List ℕ) → j < n → get_or (take n (drop at l)) j 0 ≡ get_or l (at + j) 0
here at n j l h = get_or-take n (drop at l) j 0 h ∙ get_or-drop at l j 0

pub overflow_add-v : goal.overflow_add-v
overflow_add-v c = let a = c.args in
    let k = c.loop-b.b-index in
    omega (arith, c.from.ensures, here a.at (a.at + 16 - a.at) k a.bits.now (omega (arith, part_long a.at a.bits.now (omega arith))), bit_at a.bits.now (a.at + k) c.requires.0)

pub loop-b-preserved : goal.loop-b-preserved
loop-b-preserved c = let a = c.args in
    let j = c.loop-b.b-index in
    let z = drop a.at (map odd a.bits.now) in
    let k : j < 16 = omega (arith, part_long a.at a.bits.now (omega arith)) in
    let n : j < length z = omega (arith, k, length-drop a.at (map odd a.bits.now), length-map-odd a.bits.now) in
    let b : get_or a.bits.now (a.at + j) 0 ≡ bit_of (get_or z j false) =
    bit_of_lem a.bits.now (a.at + j) c.requires.0 ∙ ap bit_of (sym (get_or-drop a.at (map odd a.bits.now) j false)) in
    omega (arith, c.from.ensures, here a.at (a.at + 16 - a.at) j a.bits.now (omega (arith, k)), b, c.loop-b.invariant, value-below z j 15 (omega arith) (omega (arith, k)), value-next z j n)
