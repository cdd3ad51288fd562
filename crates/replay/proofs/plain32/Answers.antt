use lib.Ieee.{binary32}
use Rattle.replay.proofs.Turns.{zero32_is, plain-zero, plain_other}
use Rattle.replay.proofs.plain32.Goals as goal

pub returns-then-x : goal.returns-then-x
returns-then-x c = plain-zero binary32 _ _ zero32_is c.if-x.true

pub returns : goal.returns
returns c = plain_other binary32 _ _ _ zero32_is c.if-x.false c.f32_to_bits_with_nan.ensures
