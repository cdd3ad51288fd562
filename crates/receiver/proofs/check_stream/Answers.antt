use mathlib.Core.Path.{refl}
use Prim.Native.Nat.{◌+◌}
use native.Mathlib.Omega.{arith}
use borrow.Author.Tests.{le-ltb, lt-ltb}
use Rattle.limits.specs.Answer.{cause_of}
use Rattle.limits.specs.Limits.{longest_stream}
use Rattle.receiver.proofs.check_stream.Goals as goal

pub returns-then-base-held-gt-LONGEST_STREAM : goal.returns-then-base-held-gt-LONGEST_STREAM
unfolding cause_of
returns-then-base-held-gt-LONGEST_STREAM c = let a = c.args in
    rw (lt-ltb longest_stream (a.base + a.held + a.n) c.if-base-held-gt-LONGEST_STREAM.true) refl

pub returns : goal.returns
unfolding cause_of
returns c = let a = c.args in
    rw (le-ltb longest_stream (a.base + a.held + a.n) (omega arith)) refl
