use Rattle.frame.specs.Fields.{frame_from}
use Rattle.frame.proofs.bodies.frame_from.Goals as goal

pub returns : goal.returns
unfolding frame_from
returns c = rw (
  c.auth.ensures,
  c.payload.ensures,
  c.bit.ensures,
  c.counter.ensures,
  c.device.ensures,
  c.auth_size.ensures.0,
  c.payload_size.ensures.0,
  c.li.ensures.0,
  c.requires.1,
)
