use Rattle.std.proofs.Common.{arith, refl, ap, ℕ, ◌*◌, length-set}
use Rattle.replay.proofs.Turns.{store_start, store_turn, store_end}
use Rattle.replay.proofs.store.Goals as goal

pub loop-i-init : goal.loop-i-init
loop-i-init g c = (refl, store_start _ _ _ _ _)

pub loop-i-preserved : goal.loop-i-preserved
loop-i-preserved g c = (simp length-set c.loop-i.invariant.0, store_turn _ _ _ _ _ _ _ _ (omega arith) (ap (λ (k : ℕ). k * c.loop-i.i) c.SIZE.ensures) c.loop-i.invariant.1 _ c.get.ensures)

pub returns : goal.returns
returns g c = store_end _ _ _ _ _ _ _ (omega arith) c.loop-i.invariant.1
