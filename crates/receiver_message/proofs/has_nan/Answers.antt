use Rattle.std.proofs.Common.{refl}
use Rattle.ledger.specs.Causes.{entry_nan}
use Rattle.receiver_message.proofs.has_nan.Goals as goal

pub returns : goal.returns
unfolding entry_nan
returns c =
    rw (c.is_nan.ensures.value, c.is_nan-2.ensures.value, c.is_nan-3.ensures.value, c.end_nan.ensures, c.spans_nan.ensures) refl
