use borrow.Author.Rules.{rules}
use mathlib.Core.Path.{◌≡◌, ◌∙◌, refl}
use Prim.Native.Nat.{◌+◌}
use native.Mathlib.Omega.{arith}
use lib.IntN.{pos}
use lib.ListN.{length}
use mir.Syntax.{w32}
use mir.Val.{to_z, of_z}
use mir.ValLaws.{to_z-of_z}
use borrow.Author.Tests.{lt-ltb, le-ltb, le-leb, lt-leb}
use Rattle.receiver_scan.proofs.takes.Goals as goal

pub returns-then-burst-eq0 : goal.returns-then-burst-eq0
returns-then-burst-eq0 c =
    let a = c.args in
    rw (le-ltb 0 a.burst.start (omega (arith, c.if-burst-eq0.true))) refl

pub returns-then-held-burst : goal.returns-then-held-burst
returns-then-held-burst c =
    let a = c.args in
    rw (lt-ltb 0 a.burst.start (omega (arith, c.if-burst-eq0.false)), lt-leb (a.burst.end + a.wait) a.held c.if-held-burst.true) refl

pub near-requires : goal.near-requires
near-requires c =
    let h : length c.args.starts.now.at ≡ 96 = search rules in
    omega arith

pub returns : goal.returns
returns c =
    let a = c.args in
    let d = c.distance-x in
    let x : to_z w32 (of_z w32 d.result) ≡ pos a.burst.start = to_z-of_z w32 d.result (record { sfits = d.type_inv }) ∙ d.ensures in
    rw (lt-ltb 0 a.burst.start (omega (arith, c.if-burst-eq0.false)), le-leb (a.burst.end + a.wait) a.held (omega (arith, c.if-held-burst.false)), rw x at c.near.ensures) refl
