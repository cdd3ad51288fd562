use mathlib.Core.List.{List}
use mathlib.Core.Path.{◌≡◌, refl}
use native.Mathlib.Omega.{arith}
use lib.IntN.{ℤ, pos}
use lib.ListN.{get_or, length, take}
use lib.Seq.{length-take-le, take-length}
use mir.Syntax.{w32}
use mir.Val.{to_z, of_z}
use borrow.Author.Rules.{rules}
use Rattle.receiver_starts.proofs.StartLaws.{forget-turn, stands_from}
use Rattle.receiver_starts.specs.Starts.{lately, over}
use Rattle.receiver_starts.proofs.forget.Goals as goal

pub loop-x-init : goal.loop-x-init
unfolding over lately
loop-x-init c = refl

pub keep-requires : goal.keep-requires
keep-requires c =
    let a = c.args in
    let l = c.loop-x in
    let h : length a.s.now.at ≡ 96 = search rules in
    let n = length-take-le a.s.now.count a.s.now.at (omega arith) in
    omega (arith, stands_from a.back l.x-index _ l.s (take a.s.now.count a.s.now.at) l.invariant)

pub loop-x-preserved : goal.loop-x-preserved
loop-x-preserved c =
    let a = c.args in
    let l = c.loop-x in
    let s : List ℤ = take a.s.now.count a.s.now.at in
    let d = get_or s l.x-index (pos 0) in
    let z : to_z w32 (of_z w32 d) ≡ d = search rules in
    forget-turn a.back _ l.s c.keep.new.s s l.x-index (omega arith) l.invariant (rw z at c.keep.ensures)

pub returns : goal.returns
unfolding over
returns c =
    let a = c.args in
    let l = c.loop-x in
    let s : List ℤ = take a.s.now.count a.s.now.at in
    let e : l.x-index ≡ length s = omega arith in
    rw (e, take-length s) at l.invariant
