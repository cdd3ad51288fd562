use borrow.Author.Tests.{not-true, not-false}
use Rattle.std.proofs.Common.{◌≡◌, Bool, ◌&&◌, ◌∙◌}
use Rattle.grip.proofs.TimeLaws.{finite_is}
use Rattle.grip.proofs.AnswerLaws.{says_bad, says-time, says-record, says_nothing}
use Rattle.grip.proofs.found.Goals as goal

-- the test of both, as the code makes it
times : (x y u v : Bool) → x ≡ u → y ≡ v → (w : Bool) → x && y ≡ w → u && v ≡ w
times x y u v p q w h = cc

pub returns-then-not-b : goal.returns-then-not-b
returns-then-not-b c =
    let a = c.args in
    says_bad a.b a.grip a.within (not-true _ c.if-not-b.true)

pub returns-then-not-times : goal.returns-then-not-times
returns-then-not-times c =
    let a = c.args in
    says-time a.b a.grip a.within (not-false _ c.if-not-b.false)
    (times _ _ _ _ (c.is_finite.ensures.value ∙ finite_is a.grip) c.distance_ok.ensures _ c.if-not-times.true)

pub returns-in-Some : goal.returns-in-Some
returns-in-Some c =
    let a = c.args in
    says-record a.b a.grip a.within (not-false _ c.if-not-b.false)
    (times _ _ _ _ (c.is_finite.ensures.value ∙ finite_is a.grip) c.distance_ok.ensures _ c.if-not-times.false)
    c.in-Some.nearest c.in-Some.is

pub returns-in-None : goal.returns-in-None
returns-in-None c =
    let a = c.args in
    says_nothing a.b a.grip a.within (not-false _ c.if-not-b.false)
    (times _ _ _ _ (c.is_finite.ensures.value ∙ finite_is a.grip) c.distance_ok.ensures _ c.if-not-times.false)
    c.in-None.is
