use Rattle.std.proofs.Common.{◌≡◌, subst}
use Rattle.limits.specs.Answer.{said_by, answer}
use Rattle.grip.specs.declared.Best.{Best}
use Rattle.grip.specs.Nearest.{found_or_none, grip_cause}
use Rattle.grip.specs.Reading.{found_of}
use Rattle.grip.proofs.AnswerLaws.{call_long, call-read}
use Rattle.grip.proofs.nearest_message.Goals as goal

pub returns-then-records-gt-MOST_RECORD_BYTES : goal.returns-then-records-gt-MOST_RECORD_BYTES
returns-then-records-gt-MOST_RECORD_BYTES c =
    let a = c.args in
    call_long a.records.now a.grip a.within c.if-records-gt-MOST_RECORD_BYTES.true

pub returns : goal.returns
returns c =
    let a = c.args in
    let n = c.no_records in
    call-read a.records.now a.grip a.within n.result n.ensures.0 n.ensures.1 n.ensures.2 c.if-records-gt-MOST_RECORD_BYTES.false c.found.result
    (subst (λ (b : Best). said_by found_or_none c.found.result ≡ answer (grip_cause b.ok a.grip a.within) (found_of b)) c.read_records-best.ensures.0 c.found.ensures)
