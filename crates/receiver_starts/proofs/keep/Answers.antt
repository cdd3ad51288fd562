use mathlib.Core.List.{append-nil}
use mathlib.Core.Path.{◌≡◌, ◌∙◌, refl, sym}
use native.Mathlib.Omega.{arith}
use lib.ListN.{length}
use lib.Seq.{length-take-le}
use mir.Syntax.{w32}
use mir.ValLaws.{to_z-of_z}
use borrow.Author.Rules.{rules}
use Rattle.receiver_starts.proofs.StartLaws.{Biased, keep_old, keep-recent, starts_same}
use Rattle.receiver_starts.specs.Starts.{distances}
use Rattle.receiver_starts.proofs.keep.Goals as goal

pub returns-else-biased-back-ge-MIDDLE : goal.returns-else-biased-back-ge-MIDDLE
returns-else-biased-back-ge-MIDDLE c =
    let a = c.args in
    let b : Biased a.x c.biased.result = rw (to_z-of_z w32 a.x c.ranges.x) at c.biased.ensures in
    let h : length a.s.now.at ≡ 96 = search rules in
    rw (keep_old a.x c.biased.result b a.back c.if-biased-back-ge-MIDDLE.false, append-nil (distances a.s.now)) (starts_same a.s.now (sym (length-take-le a.s.now.count a.s.now.at (omega arith))))

pub returns-then-biased-back-ge-MIDDLE : goal.returns-then-biased-back-ge-MIDDLE
returns-then-biased-back-ge-MIDDLE c =
    let a = c.args in
    let z = to_z-of_z w32 a.x c.ranges.x in
    let b : Biased a.x c.biased.result = rw z at c.biased.ensures in
    rw z at c.remember.ensures ∙ rw (keep-recent a.x c.biased.result b a.back c.if-biased-back-ge-MIDDLE.true) refl
