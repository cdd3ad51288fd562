use mathlib.Core.Path.{ap, subst}
use mathlib.Core.List.{List, map}
use Prim.Native.Nat.{ℕ}
use native.Mathlib.Omega.{arith}
use lib.ListN.{length, drop}
use Rattle.coding.specs.Bits.{odd}
use Rattle.frame.specs.Plain.{NextByte}
use Rattle.frame.proofs.bodies.Body.byte.Goals as goal

pub straight_byte-requires : goal.straight_byte-requires
straight_byte-requires c = omega (arith, c.requires, ap length c.unchanged.ensures.0.0)

pub returns : goal.returns
returns c = let a = c.args in
    let v = c.unchanged in
    let e = v.ensures.0 in
    let r = c.straight_byte.result in
    subst (λ (k : ℕ). NextByte k (drop a.from (map odd a.self.bits.now)) a.last r) e.1
    (subst (λ (l : List ℕ). NextByte v.result.rank (drop a.from (map odd l)) a.last r) e.0 c.straight_byte.ensures)
