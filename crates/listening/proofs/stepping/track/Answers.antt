use mathlib.Core.Path.{refl}
use mathlib.Core.List.{List, []}
use Prim.Native.Nat.{ℕ}
use native.Mathlib.Omega.{arith}
use Rattle.std.proofs.Common.{Ok, Err}
use Rattle.limits.specs.Answer.{cause_of}
use Rattle.limits.proofs.AnswerLaws.{number-positive}
use Rattle.listening_lines.specs.Lines.{tune_line}
use Rattle.listening.proofs.StepLaws.{goes-stop, turned_on, turn-fit}
use Rattle.listening.proofs.stepping.track.Goals as goal

pub returns-in-Err : goal.returns-in-Err
unfolding cause_of
returns-in-Err c =
    let e = c.in-Err.refusal in
    let t = c.in-Err.ensures in
    let a = c.add_to-end.ensures in
    let text = rw c.refusal_line.ensures at a.added in
    let n = number-positive e in record {
      by_index = λ (raw : List ℕ).
          record {
            stops = λ k g v places st. goes-stop _ raw _ (Err e) _ _ _ _ _ v places t.turned n st text;
            text = [];
            added = λ z. absurd (n z);
            on = λ z. absurd (n z);
          };
      leads = record { passed = omega arith; samples = omega arith; frames = refl; messages = refl; end = omega (arith, a.upper_bound); room = a.added.room; single = t.single };
    }

pub overflow_add-l : goal.overflow_add-l
overflow_add-l c = omega (arith, c.requires.1.samples)

pub returns-in-Ok : goal.returns-in-Ok
unfolding cause_of
returns-in-Ok c =
    let f = c.in-Ok.tune in
    let t = c.in-Ok.ensures in
    let a = c.add_to-end-in-Ok.ensures in
    let text = rw c.tune_line.ensures at a.added in
    let fit = turn-fit _ _ _ _ _ _ in record {
      by_index = λ (raw : List ℕ).
          record {
            stops = λ k. absurd (k refl);
            text = tune_line f;
            added = λ w. text;
            on = λ w g. turned_on _ raw _ (Ok f) _ _ fit t.turned refl;
          };
      leads = record {
        passed = omega arith;
        samples = omega arith;
        frames = refl;
        messages = refl;
        end = omega (arith, a.upper_bound);
        room = a.added.room;
        single = t.single;
      };
    }
