use mathlib.Core.Path.{refl}
use native.Mathlib.Omega.{arith}
use mathlib.Core.List.{List}
use Prim.Native.Nat.{ℕ}
use Rattle.std.proofs.lemmas.Result.{err_from_is_err_and}
use Rattle.limits.specs.Answer.{cause_of}
use Rattle.listening_records.specs.Emission.{Emission, Tells}
use Rattle.listening_records.proofs.EmissionLaws.{as_told}
use Rattle.listening_receiver.proofs.HearingLaws.{refused-heard, accepted-heard, grown_most}
use Rattle.listening_receiver.proofs.tell_answer.Goals as goal

pub returns-in_err-count : goal.returns-in_err-count
unfolding cause_of
returns-in_err-count c =
    let s = c.args in
    let n = err_from_is_err_and c.from_residual.result c.from_residual.ensures.1 in record {
      by_index = λ (old : List ℕ) (start : ℕ) (p : Emission) (h : Tells p old start 0 s.t.now s.out.now). rw (n.1, n.2, c.in_err-count.was) (refused-heard _ _ p _ old _ start _ h);
      grown = record { end = omega arith; frames = omega arith; messages = omega arith; room = refl };
    }

pub returns : goal.returns
unfolding cause_of
returns c =
    let s = c.args in
    let x = c.tell_all.ensures in record {
      by_index = λ (old : List ℕ) (start : ℕ) (p : Emission) (h : Tells p old start 0 s.t.now s.out.now). rw c.in_ok-count.was (as_told (accepted-heard 0 _ p _ refl) (x.by_index old start p h));
      grown = grown_most _ _ _ _ _ (rw c.in_ok-count.was at c.requires.0) x.grown;
    }
