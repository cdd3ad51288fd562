use borrow.Author.Tests.{eq-eqb, ne_eqb}
use native.Mathlib.Omega.{arith}
use mathlib.Core.Path.{◌≡◌}
use mathlib.Core.Bool.{false}
use Prim.Native.Nat.{◌%◌}
use lib.Dec.{eqb}
use Rattle.limits.specs.Answer.{said_by, answer}
use Rattle.cfo.specs.Cfo.{cf_fs, step_of, step_cause, step_hz}
use Rattle.cfo.proofs.Constants.{xtal, bits12}
use Rattle.cfo.proofs.Signs.{shifted}
use Rattle.cfo.proofs.cfo_step_hz.Goals as goal

pub returns-then-bit_rate-eq0 : goal.returns-then-bit_rate-eq0
unfolding said_by answer step_cause step_hz
returns-then-bit_rate-eq0 c = simp (eq-eqb _ _ c.if-bit_rate-eq0.true)

pub returns : goal.returns
unfolding said_by answer step_cause step_hz step_of cf_fs
returns c =
    let a = c.args in
    let t : eqb a.bit_rate 0 ≡ false = ne_eqb _ _ c.if-bit_rate-eq0.false in
    rw t (cc (xtal, bits12, shifted (a.bw_code % 8) (omega arith), c.interp.ensures, c.floor64-osr.ensures, c.mant-m.ensures))
