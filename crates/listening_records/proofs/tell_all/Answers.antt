use Prim.Native.Nat.{ℕ}
use mathlib.Core.List.{List}
use lib.ListN.{length}
use mathlib.Core.Path.{◌≡◌, refl, ◌∙◌}
use native.Mathlib.Omega.{arith}
use borrow.Author.Rules.{rules}
use Rattle.std.proofs.lemmas.Result.{err_from_is_err_and}
use Rattle.limits.specs.Answer.{cause_of}
use Rattle.limits.specs.Refusals.{number_of}
use Rattle.limits.proofs.AnswerLaws.{number-positive}
use Rattle.listening_records.specs.Emission.{Emission, Tells}
use Rattle.listening_records.proofs.EmissionLaws.{as_told, grown_more, none_told, turn_told, record_part, refused-told}
use Rattle.listening_records.proofs.tell_all.Goals as goal

pub loop-i-init : goal.loop-i-init
loop-i-init c = (
  refl,
  record { end = omega arith; frames = omega arith; messages = omega arith; room = refl },
  λ (old : List ℕ) (start : ℕ) (p : Emission) (h : Tells p old start 0 c.args.t.now c.args.out.now). as_told (none_told _ p c.args.events.now) h,
)

pub returns-in_err-tell : goal.returns-in_err-tell
unfolding cause_of
returns-in_err-tell c =
    let l = c.loop-i in
    let s = c.args in
    let e = c.in_err-tell.field-0.0 in
    let x = c.in_err-tell.ensures in
    let n = err_from_is_err_and c.from_residual.result c.from_residual.ensures.1 in
    let g = grown_more l.i _ _ _ _ _ _ l.invariant.1 x.within in record {
      by_index = λ (old : List ℕ) (start : ℕ) (p : Emission) (h : Tells p old start 0 s.t.now s.out.now).
          rw (n.1, n.2) (refused-told _ p old _ start l.i s.count (number_of e) s.events.now _ c.loop-i-test.true (number-positive e)
          (turn_told s.q (length s.scratch.now) (length l.scratch) p old l.out _ start l.i (number_of e) s.events.now _ l.t _
          l.invariant.0 (c.new.ensures ∙ record_part l.i s.events.now) (l.invariant.2 old start p h) (λ (u : Emission) (g : Tells u old start 0 l.t l.out). x.by_index old start u g)));
      grown = record { end = omega (arith, g.end, c.loop-i-test.true); frames = omega (arith, g.frames, c.loop-i-test.true); messages = omega (arith, g.messages, c.loop-i-test.true); room = g.room };
    }

pub loop-i-preserved : goal.loop-i-preserved
unfolding cause_of
loop-i-preserved c =
    let l = c.loop-i in
    let s = c.args in
    let x = c.in_ok-tell in (
      search rules,
      grown_more l.i _ _ _ _ _ _ l.invariant.1 x.ensures.within,
      λ (old : List ℕ) (start : ℕ) (p : Emission) (h : Tells p old start 0 s.t.now s.out.now).
          turn_told s.q (length s.scratch.now) (length l.scratch) p old l.out _ start l.i 0 s.events.now _ l.t _
          l.invariant.0 (c.new.ensures ∙ record_part l.i s.events.now) (l.invariant.2 old start p h) (λ (u : Emission) (g : Tells u old start 0 l.t l.out). x.ensures.by_index old start u g),
    )

pub returns : goal.returns
unfolding cause_of
returns c =
    let s = c.args in
    let l = c.loop-i in
    let e : l.i ≡ s.count = omega arith in
    record { by_index = rw e at l.invariant.2; grown = rw e at l.invariant.1 }
