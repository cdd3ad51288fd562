use mathlib.Core.Path.{◌≡◌, sym, ap, ◌∙◌}
use mathlib.Core.Bool.{false}
use mathlib.Core.List.{List, map}
use Prim.Native.Nat.{ℕ, ◌+◌, ◌-◌, ◌<◌, ◌≤◌}
use native.Mathlib.Omega.{arith}
use lib.ListN.{length, take, drop, get_or, length-drop}
use lib.Seq.{get_or-drop, get_or-take, length-take-le}
use Rattle.coding.specs.Bits.{odd, bit_of}
use Rattle.coding.proofs.BitLaws.{bit_at, length-map-odd}
use Rattle.coding.proofs.Values.{bit_of_lem}
use Rattle.frame.proofs.PlainLaws.{part_none, part_more, part-whole}
use Rattle.frame.proofs.splices.Spliced.straight_byte.Goals as goal

-- the bits that are read
part_long : (from : ℕ) (l : List ℕ) → from + 8 ≤ length l → length (take (from + 8 - from) (drop from l)) ≡ 8
part_long from l h = length-take-le (from + 8 - from) (drop from l) (omega (arith, length-drop from l)) ∙ (let e : from + 8 - from ≡ 8 = omega arith in e)

here : (from n j : ℕ) (l : List ℕ) → j < n → get_or (take n (drop from l)) j 0 ≡ get_or l (from + j) 0
here from n j l h = get_or-take n (drop from l) j 0 h ∙ get_or-drop from l j 0

pub loop-bit-init : goal.loop-bit-init
loop-bit-init c = let a = c.args in part_none a.self.rank a.last (drop a.from (map odd a.self.bits.now))

pub coded_bit-x-requires : goal.coded_bit-x-requires
coded_bit-x-requires c = let a = c.args in
    let l = a.self.bits.now in
    let k = c.loop-bit.bit-index in
    (omega (arith, here a.from (a.from + 8 - a.from) k l (omega (arith, part_long a.from l c.requires)), bit_at l (a.from + k) a.self.valid), c.loop-bit.invariant.low_a, c.loop-bit.invariant.low-b)

pub loop-bit-preserved : goal.loop-bit-preserved
loop-bit-preserved c = let a = c.args in
    let j = c.loop-bit.bit-index in
    let z = map odd a.self.bits.now in
    let r = drop a.from z in
    let n = a.from + 8 - a.from in
    let y = get_or (take n (drop a.from a.self.bits.now)) j 0 in
    let k : j < 8 = omega (arith, part_long a.from a.self.bits.now c.requires) in
    let h : j < length r = omega (arith, k, length-drop a.from z, length-map-odd a.self.bits.now, c.requires) in
    let g : y ≡ bit_of (get_or r j false) = here a.from n j a.self.bits.now (omega (arith, k)) ∙ bit_of_lem a.self.bits.now (a.from + j) a.self.valid ∙ ap bit_of (sym (get_or-drop a.from z j false)) in
    part_more a.self.rank a.last r j c.loop-bit.v c.loop-bit.a c.loop-bit.b c.coded_bit-x.result y c.loop-bit.invariant k h g c.coded_bit-x.ensures

pub returns : goal.returns
returns c = let a = c.args in
    let z = map odd a.self.bits.now in
    part-whole a.self.rank a.last (drop a.from z) c.loop-bit.bit-index c.loop-bit.v c.loop-bit.a c.loop-bit.b c.loop-bit.invariant (omega (arith, part_long a.from a.self.bits.now c.requires))
    (omega (arith, length-drop a.from z, length-map-odd a.self.bits.now, c.requires))
