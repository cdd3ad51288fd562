use Rattle.replay_records.proofs.Signs.{signs-gone}
use Rattle.replay_records.proofs.without_signs.Goals as goal

pub returns : goal.returns
returns c =
    signs-gone _
    c.unsign.ensures
    c.unsign-2.ensures
    c.unsign-3.ensures
    c.unsign-4.ensures
    c.unsign-5.ensures
    c.unsign-6.ensures
    c.unsign-7.ensures
    c.unsign-8.ensures
    c.unsign-9.ensures
