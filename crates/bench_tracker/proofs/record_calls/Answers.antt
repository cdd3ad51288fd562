use Rattle.std.proofs.Common.{arith}
use Rattle.frequency_grown.proofs.RisingLaws.{after_tuned, after_next}
use Rattle.bench_tracker.proofs.record_calls.Goals.{then-s+in_ok-tuned, else-s}
use Rattle.bench_tracker.proofs.record_calls.Goals as goal

pub returns-in_err-tuned : goal.returns-in_err-tuned
returns-in_err-tuned g c = let a = c.args in after_tuned a.readings.now _ _ c.get-freq.result _ (omega arith) (c.begin.ensures _ c.requires.1) c.tuned.ensures

pub heard-requires : goal.heard-requires
heard-requires g c =
    let a = c.args in
    elim c.if-s.branch [
      | then-s+in_ok-tuned w ↦ (c.requires.0, rw (w.s-is, w.tunings-is) (after_tuned a.readings.now _ _ c.get-freq.result _ (omega arith) (c.begin.ensures _ c.requires.1) w.tuned.ensures))
      | else-s w ↦ (c.requires.0, rw (w.s-is, w.tunings-is) (c.begin.ensures _ c.requires.1))
    ]

pub returns-in_err-tune : goal.returns-in_err-tune
returns-in_err-tune g c = after_next _ _ _ _ c.heard.ensures c.chosen.ensures

pub returns-in_ok-tune : goal.returns-in_ok-tune
returns-in_ok-tune g c = after_next _ _ _ _ c.heard.ensures c.chosen.ensures
