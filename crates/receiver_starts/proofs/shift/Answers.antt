use mathlib.Core.List.{List, [], ◌++◌, append-nil}
use mathlib.Core.Path.{◌≡◌, refl, ◌∙◌}
use Prim.Native.Nat.{◌^◌}
use native.Mathlib.Omega.{arith}
use lib.IntN.{ℤ, pos, ◌-ℤ◌}
use lib.ListN.{get_or, length, take}
use lib.Seq.{drop-length, take-length}
use mir.Syntax.{w32}
use mir.Val.{to_z, of_z}
use mir.ValLaws.{to_z-of_z}
use borrow.Author.Rules.{rules}
use Rattle.receiver_starts.specs.Starts.{moved}
use Rattle.receiver_starts.proofs.StartLaws.{from_next, moved_all, moved_here, moved-turn}
use Rattle.receiver_starts.proofs.shift.Goals as goal

pub less-requires : goal.less-requires
less-requires c =
    let a = c.args in
    let l = c.loop-x in
    let s : List ℤ = take a.s.now.count a.s.now.at in
    let d = get_or l.x-items l.x-index (pos 0) in
    let z : to_z w32 (of_z w32 d) ≡ d = search rules in
    (c.requires.1, rw (z, moved_here a.by s l.x-items l.x-index (omega arith) l.invariant.1) (from_next (2 ^ 30) s l.x-index (omega arith) l.invariant.0).0)

pub loop-x-init : goal.loop-x-init
loop-x-init c = (c.requires.2, refl)

pub loop-x-preserved : goal.loop-x-preserved
loop-x-preserved c =
    let a = c.args in
    let l = c.loop-x in
    let s : List ℤ = take a.s.now.count a.s.now.at in
    let d = get_or l.x-items l.x-index (pos 0) in
    let z : to_z w32 (of_z w32 d) ≡ d = search rules in
    let m : to_z w32 (of_z w32 c.less.result) ≡ get_or s l.x-index (pos 0) -ℤ pos a.by =
    to_z-of_z w32 c.less.result (record { sfits = c.less.type_inv }) ∙ rw (z, moved_here a.by s l.x-items l.x-index (omega arith) l.invariant.1) at c.less.ensures in
    ((from_next (2 ^ 30) s l.x-index (omega arith) l.invariant.0).1, rw m (moved-turn a.by s l.x-items l.x-index (omega arith) l.invariant.1))

pub returns : goal.returns
returns c =
    let a = c.args in
    let l = c.loop-x in
    let s : List ℤ = take a.s.now.count a.s.now.at in
    let h : length a.s.now.at ≡ 96 = search rules in
    let e : l.x-index ≡ length s = omega arith in
    let f : l.x-items ≡ moved a.by s ++ [] = rw (e, take-length s, drop-length s) at l.invariant.1 in
    moved_all a.by a.s.now l.x-items (omega arith) (f ∙ append-nil (moved a.by s))
