use lib.Ieee.{binary64}
use Rattle.replay.proofs.Turns.{zero64_is, plain-zero, plain_other}
use Rattle.replay.proofs.plain64.Goals as goal

pub returns-then-x : goal.returns-then-x
returns-then-x c = plain-zero binary64 _ _ zero64_is c.if-x.true

pub returns : goal.returns
returns c = plain_other binary64 _ _ _ zero64_is c.if-x.false c.f64_to_bits_with_nan.ensures
