use mathlib.Core.Path.{refl, sym, ◌∙◌}
use native.Mathlib.Omega.{arith}
use lib.ListN.{length}
use mathlib.Core.List.{List}
use Prim.Native.Nat.{ℕ}
use Rattle.std.proofs.lemmas.Result.{err_from_is_err_and}
use Rattle.limits.specs.Answer.{said_by, cause_of, refused, accepted}
use Rattle.limits.specs.Refusals.{number_of}
use Rattle.listening_records.specs.Emission.{Emission, asked, Tells}
use Rattle.listening_records.proofs.EmissionLaws.{emitted-frame, emitted-message, message-line, refusal_told, frame_told, as_told}
use Rattle.listening_records.proofs.tell.Goals as goal

pub returns-then-kind-eq-FRAME : goal.returns-then-kind-eq-FRAME
unfolding cause_of
returns-then-kind-eq-FRAME c =
    let s = c.args in record {
      by_index = λ (old : List ℕ) (start : ℕ) (p : Emission) (h : Tells p old start 0 s.t.now s.out.now).
          as_told (emitted-frame (asked s.q (length s.scratch.now)) p s.event.bytes.now (sym h.refused) (omega (arith, c.kind.ensures))) (frame_told p old _ start s.t.now h);
      within = record { end = omega arith; frames = omega arith; messages = omega arith; room = refl };
    }

pub returns-in_err-answer : goal.returns-in_err-answer
unfolding said_by cause_of
returns-in_err-answer c =
    let s = c.args in
    let e = c.in_err-answer.field-0.0 in
    let n = err_from_is_err_and c.from_residual.result c.from_residual.ensures.1 in record {
      by_index = λ (old : List ℕ) (start : ℕ) (p : Emission) (h : Tells p old start 0 s.t.now s.out.now).
          rw (n.1, n.2) (as_told (emitted-message (asked s.q (length s.scratch.now)) p s.event.bytes.now (refused (number_of e)) (sym h.refused) (omega (arith, c.kind.ensures)) c.in_err-answer.ensures)
          (refusal_told p old s.out.now start (number_of e) s.t.now s.event.bytes.now h));
      within = record { end = omega arith; frames = omega arith; messages = omega arith; room = refl };
    }

pub returns : goal.returns
unfolding said_by cause_of
returns c =
    let told = c.tell_line.ensures in
    let s = c.args in
    let a = c.in_ok-answer.answer in record {
      by_index = λ (old : List ℕ) (start : ℕ) (p : Emission) (h : Tells p old start 0 s.t.now s.out.now).
          as_told (message-line p s.event.bytes.now a ∙ emitted-message (asked s.q (length s.scratch.now)) p s.event.bytes.now (accepted a) (sym h.refused) (omega (arith, c.kind.ensures)) c.in_ok-answer.ensures) (told.by_index old start p h);
      within = told.within;
    }
