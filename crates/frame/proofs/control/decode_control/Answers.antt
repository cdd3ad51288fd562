use mathlib.Core.Path.{ap, ◌∙◌}
use mir.Syntax.{w32}
use mir.ValLaws.{to_z-of_z}
use Rattle.frame.specs.Control.{celsius}
use Rattle.frame.proofs.ControlLaws.{control-keep, control_confirm, control_other, control-length, control-seven}
use Rattle.frame.proofs.control.decode_control.Goals as goal
use Rattle.frame.proofs.control.decode_control.Goals.{then-payload-eq-KEEP_ALIVE_SIZE+else-payload-eq-KEEP_ALIVE, else-payload-eq-KEEP_ALIVE_SIZE}

pub returns-then-payload-eq-KEEP_ALIVE : goal.returns-then-payload-eq-KEEP_ALIVE
returns-then-payload-eq-KEEP_ALIVE c = let l = c.args.payload.now in
    control-keep l c.get.result c.get-then-payload-eq-KEEP_ALIVE.result c.celsius_of.result c.if-payload-eq-KEEP_ALIVE_SIZE.true c.if-payload-eq-KEEP_ALIVE.true
    c.get.ensures c.get-then-payload-eq-KEEP_ALIVE.ensures (c.celsius_of.ensures ∙ ap celsius c.get-then-payload-eq-KEEP_ALIVE-2.ensures)

pub returns-then-payload-eq-CONFIRMATION : goal.returns-then-payload-eq-CONFIRMATION
returns-then-payload-eq-CONFIRMATION c = let l = c.args.payload.now in
    control_confirm l c.get-then-payload-eq-CONFIRMATION.result c.get-then-payload-eq-CONFIRMATION-2.result c.celsius_of-then-payload-eq-CONFIRMATION.result _ c.if-payload-eq-CONFIRMATION_SIZE.true c.if-payload-eq-CONFIRMATION.true
    c.get-then-payload-eq-CONFIRMATION.ensures c.get-then-payload-eq-CONFIRMATION-2.ensures (c.celsius_of-then-payload-eq-CONFIRMATION.ensures ∙ ap celsius c.get-then-payload-eq-CONFIRMATION-3.ensures)
    (to_z-of_z w32 c.rssi_of.result (record { sfits = c.rssi_of.type_inv }) ∙ c.rssi_of.ensures)

pub returns-else-payload-eq-CONFIRMATION : goal.returns-else-payload-eq-CONFIRMATION
returns-else-payload-eq-CONFIRMATION c = let l = c.args.payload.now in
    control_other l c.if-payload-eq-CONFIRMATION_SIZE.true c.if-payload-eq-CONFIRMATION.false

pub returns-else-payload-eq-CONFIRMATION_SIZE : goal.returns-else-payload-eq-CONFIRMATION_SIZE
returns-else-payload-eq-CONFIRMATION_SIZE c = let l = c.args.payload.now in elim c.if-payload-eq-KEEP_ALIVE_SIZE.branch [ then-payload-eq-KEEP_ALIVE_SIZE+else-payload-eq-KEEP_ALIVE w ↦ control-seven l w.if-payload-eq-KEEP_ALIVE.false c.if-payload-eq-CONFIRMATION_SIZE.false | else-payload-eq-KEEP_ALIVE_SIZE w ↦ control-length l w.if-payload-eq-KEEP_ALIVE_SIZE.false c.if-payload-eq-CONFIRMATION_SIZE.false ]
