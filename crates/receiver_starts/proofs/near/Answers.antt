use mathlib.Core.Bool.{false}
use mathlib.Core.List.{List}
use mathlib.Core.Path.{◌∙◌, ◌≡◌, refl, sym}
use native.Mathlib.Omega.{arith}
use lib.IntN.{ℤ, pos}
use lib.ListN.{drop, get_or, length, take}
use lib.Seq.{drop-length}
use mir.Syntax.{w32}
use mir.Val.{to_z, of_z}
use mir.ValLaws.{to_z-of_z}
use borrow.Author.Rules.{rules}
use Rattle.receiver_starts.specs.Starts.{near_one}
use Rattle.receiver_starts.proofs.StartLaws.{Biased, near_hit, near_miss}
use Rattle.receiver_starts.proofs.near.Goals as goal

pub returns-then-same_burst : goal.returns-then-same_burst
returns-then-same_burst c =
    let a = c.args in
    let l = c.loop-d in
    let s : List ℤ = take a.n a.starts.now in
    let d = get_or s l.d-index (pos 0) in
    let z : to_z w32 (of_z w32 d) ≡ d = search rules in
    let b : Biased d c.biased.result = rw z at c.biased.ensures in
    sym (rw (to_z-of_z w32 a.x c.ranges.x) at (l.invariant ∙ near_hit s l.d-index (omega arith) c.biased.result b a.rate (to_z w32 (of_z w32 a.x)) c.biased-at.result c.biased-at.ensures (sym c.same_burst.ensures ∙ c.if-same_burst.true)))

pub loop-d-preserved : goal.loop-d-preserved
loop-d-preserved c =
    let a = c.args in
    let l = c.loop-d in
    let s : List ℤ = take a.n a.starts.now in
    let d = get_or s l.d-index (pos 0) in
    let z : to_z w32 (of_z w32 d) ≡ d = search rules in
    let b : Biased d c.biased.result = rw z at c.biased.ensures in
    l.invariant ∙ near_miss s l.d-index (omega arith) c.biased.result b a.rate (to_z w32 (of_z w32 a.x)) c.biased-at.result c.biased-at.ensures (sym c.same_burst.ensures ∙ c.if-same_burst.false)

pub returns : goal.returns
unfolding near_one
returns c =
    let l = c.loop-d in
    let e : l.d-index ≡ length (take c.args.n c.args.starts.now) = omega arith in
    let q : near_one c.args.rate (drop l.d-index (take c.args.n c.args.starts.now)) (to_z w32 (of_z w32 c.args.x)) ≡ false = rw (e, drop-length (take c.args.n c.args.starts.now)) refl in
    sym (rw (to_z-of_z w32 c.args.x c.ranges.x) at (l.invariant ∙ q))
