use mathlib.Core.Path.{◌∙◌, ◌≡◌, refl, sym}
use native.Mathlib.Omega.{arith}
use lib.IntN.{pos}
use lib.ListN.{get_or, length}
use lib.Seq.{drop-length}
use mir.Syntax.{w32}
use mir.Val.{to_z, of_z}
use borrow.Author.Rules.{rules}
use Rattle.receiver_starts.specs.Starts.{all_from}
use Rattle.receiver_starts.proofs.StartLaws.{Biased, from_more, from_not}
use Rattle.receiver_starts.proofs.all_from.Goals as goal

pub returns-then-biased-oldest : goal.returns-then-biased-oldest
returns-then-biased-oldest c =
    let a = c.args in
    let l = c.loop-d in
    let d = get_or a.starts.now l.d-index (pos 0) in
    let z : to_z w32 (of_z w32 d) ≡ d = search rules in
    let b : Biased d c.biased.result = rw z at c.biased.ensures in
    sym (l.invariant ∙ from_not a.starts.now l.d-index (omega arith) c.biased.result b a.back c.saturating_sub-oldest.result c.saturating_sub-oldest.ensures c.if-biased-oldest.true)

pub loop-d-preserved : goal.loop-d-preserved
loop-d-preserved c =
    let a = c.args in
    let l = c.loop-d in
    let d = get_or a.starts.now l.d-index (pos 0) in
    let z : to_z w32 (of_z w32 d) ≡ d = search rules in
    let b : Biased d c.biased.result = rw z at c.biased.ensures in
    l.invariant ∙ from_more a.starts.now l.d-index (omega arith) c.biased.result b a.back c.saturating_sub-oldest.result c.saturating_sub-oldest.ensures c.if-biased-oldest.false

pub returns : goal.returns
unfolding all_from
returns c =
    let l = c.loop-d in
    let e : l.d-index ≡ length c.args.starts.now = omega arith in
    sym (l.invariant ∙ rw (e, drop-length c.args.starts.now) refl)
