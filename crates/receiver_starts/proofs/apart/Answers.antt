use mathlib.Core.Path.{◌∙◌, ◌≡◌, refl, sym}
use native.Mathlib.Omega.{arith}
use lib.IntN.{pos}
use lib.ListN.{get_or, length}
use lib.Seq.{drop-length}
use mir.Syntax.{w32}
use mir.Val.{to_z, of_z}
use borrow.Author.Rules.{rules}
use Rattle.receiver_starts.specs.Starts.{all_apart}
use Rattle.receiver_starts.proofs.StartLaws.{apart_more, apart_not}
use Rattle.receiver_starts.proofs.apart.Goals as goal

pub returns-then-near : goal.returns-then-near
returns-then-near c =
    let a = c.args in
    let l = c.loop-i in
    let d = get_or a.starts.now l.i (pos 0) in
    let z : to_z w32 (of_z w32 d) ≡ d = search rules in
    sym (l.invariant ∙ apart_not a.starts.now l.i (omega arith) a.rate (sym (rw z at c.near.ensures) ∙ c.if-near.true))

pub loop-i-preserved : goal.loop-i-preserved
loop-i-preserved c =
    let a = c.args in
    let l = c.loop-i in
    let d = get_or a.starts.now l.i (pos 0) in
    let z : to_z w32 (of_z w32 d) ≡ d = search rules in
    l.invariant ∙ apart_more a.starts.now l.i (omega arith) a.rate (sym (rw z at c.near.ensures) ∙ c.if-near.false)

pub returns : goal.returns
unfolding all_apart
returns c =
    let l = c.loop-i in
    let e : l.i ≡ length c.args.starts.now = omega arith in
    sym (l.invariant ∙ rw (e, drop-length c.args.starts.now) refl)
