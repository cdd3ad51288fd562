use mathlib.Core.List.{List}
use Prim.Native.Nat.{ℕ, ◌+◌, ◌≤◌}
use native.Mathlib.Omega.{arith}
use lib.ListN.{length}
use Rattle.listening.specs.Hand.{GoesOn}
use Rattle.listening.proofs.BufferLaws.{whole_length, reached-whole, whole_of, read_on, stopped_as, further_stopped}
use Rattle.listening.proofs.turn.Goals as goal

pub hear-requires-clause-come : goal.hear-requires-clause-come
hear-requires-clause-come g c =
    let st = c.requires.staged in
    record { read = whole_of st.read; n = _; whole = whole_length st.read; reached = reached-whole st.read _ _ _ _ st.stage.all }

pub returns-in_err-hear-clause-by_index : goal.returns-in_err-hear-clause-by_index
returns-in_err-hear-clause-by_index g c =
    λ (read : List ℕ) st.
    further_stopped _ _ _ _ _ _ _ _ _ c.from_residual-in_err-hear.ensures.1
    (stopped_as _ _ _ _ _ _ _ _ (c.in_err-hear.ensures.by_index (whole_of read) _ (whole_length read) (reached-whole read _ _ _ _ st.all)))

pub returns-clause-by_index : goal.returns-clause-by_index
unfolding GoesOn
returns-clause-by_index g c =
    let a = c.args in
    let n = c.in_ok-n.n in
    let fit : a.filled + n ≤ length c.fetch.new.input = c.in_ok-n.ensures.result_in_bounds in
    λ (read : List ℕ) st.
    read_on read a.input.now c.fetch.new.input a.filled n c.in_ok-n.ensures.input_unchanged fit (omega (arith, c.requires.room.0)) st.filled st.tail _ _ _ _
    (c.in_ok-hear.ensures.by_index (whole_of read) _ (whole_length read) (reached-whole read _ _ _ _ st.all))
