use mathlib.Core.Path.{refl}
use Rattle.listening.proofs.Prefix.{all_said}
use Rattle.listening.proofs.BufferLaws.{end_part}
use Rattle.listening.proofs.conclude.Goals as goal

pub hand_over-requires : goal.hand_over-requires
hand_over-requires g c =
    let st = c.requires.staged in
    let x = st.stage.all in record { part = end_part st.read _ _ _ _ _ _ _ _ _ _ st.stage refl (c.finish-end.ensures.added x.ledger _ x.stands) }

pub returns : goal.returns
returns g c =
    let st = c.requires.staged in
    let x = st.stage.all in
    record { read = st.read; accepted = x.accepted; text = all_said st.read x.accepted }
