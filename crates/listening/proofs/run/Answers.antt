use Prim.Native.Nat.{ℕ, ◌+◌}
use native.Mathlib.Omega.{arith}
use lib.ListN.{length-replicate}
use lib.Ieee.{Float, binary32, of_bits}
use Rattle.listening.proofs.BufferLaws.{started, first_near, reads_room, reads_near, ran_stopped}
use Rattle.listening.proofs.run.Goals as goal
use Rattle.listening.proofs.run.Goals.{else-loop-test, then-loop-test+in_ok-n+then-n-eq0}

pub loop-init : goal.loop-init
loop-init g c =
    let l = c.fresh-listener.ensures in (
      record { read = _; stage = started _ _ _ _ l c.new-receiver.ensures (length-replicate {A = Float} 12000 (of_bits binary32 0)) },
      first_near _ l,
      length-replicate {A = ℕ} 4096 0,
      length-replicate {A = ℕ} 33024 0,
    )

pub turn-requires-clause-staged : goal.turn-requires-clause-staged
turn-requires-clause-staged g c = c.loop.invariant.0

pub turn-requires-clause-room : goal.turn-requires-clause-room
turn-requires-clause-room g c =
    let i = c.loop.invariant in
    (i.2, reads_room _ c.loop.counter (omega arith) i.1, omega (arith, i.3))

pub returns-in_err-n : goal.returns-in_err-n
returns-in_err-n g c =
    let i = c.loop.invariant in
    ran_stopped _ _ c.from_residual.ensures.1 (c.in_err-n.ensures.by_index i.0.read i.0.stage)

pub overflow_add-filled : goal.overflow_add-filled
overflow_add-filled g c =
    let i = c.loop.invariant in
    let x = c.in_ok-n.ensures.by_index i.0.read i.0.stage in
    omega (arith, x.fits)

pub loop-preserved : goal.loop-preserved
loop-preserved g c =
    let i = c.loop.invariant in
    let t = c.in_ok-n.ensures in
    let x = t.by_index i.0.read i.0.stage in
    (record { read = _; stage = x.stage }, reads_near _ _ c.loop.counter i.1 t.near, omega (arith, i.2), omega (arith, i.3))

pub conclude-requires-clause-staged : goal.conclude-requires-clause-staged
conclude-requires-clause-staged g c =
    let i = c.loop.invariant in
    elim c.loop-test.branch [
      | else-loop-test w ↦ rw (w.input-is, w.readings-is, w.tunings-is, w.b-is, w.listener-is, w.receiver-is, w.filled-is) i.0
      | then-loop-test+in_ok-n+then-n-eq0 w ↦
          let x = w.in_ok-n.ensures.by_index i.0.read i.0.stage in
          rw (w.input-is, w.readings-is, w.tunings-is, w.b-is, w.listener-is, w.receiver-is, w.filled-is) (record { read = _; stage = x.stage })
    ]

pub conclude-requires-clause-room : goal.conclude-requires-clause-room
conclude-requires-clause-room g c =
    let i = c.loop.invariant in
    elim c.loop-test.branch [
      | else-loop-test w ↦ rw (w.listener-is, w.out-is) (reads_room _ c.loop.counter (omega arith) i.1, omega (arith, i.3))
      | then-loop-test+in_ok-n+then-n-eq0 w ↦
          let near = reads_near _ _ c.loop.counter i.1 w.in_ok-n.ensures.near in
          rw (w.listener-is, w.out-is) (reads_room _ (c.loop.counter + 1) (omega arith) near, omega (arith, i.3))
    ]
