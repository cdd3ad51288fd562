use mathlib.Core.Path.{refl, ap, sym, ◌∙◌}
use Prim.Native.Nat.{ℕ, ◌+◌, ◌*◌, min}
use native.Mathlib.Omega.{arith}
use Rattle.uplink.proofs.Words.{number-turn, number_end}
use Rattle.uplink.proofs.line.number.Goals as goal

pub loop-c-preserved : goal.loop-c-preserved
loop-c-preserved c = let l = c.loop-c in
    let a = c.args in (
      omega (arith, c.min-n.ensures),
      number-turn a.base a.most l.n a.w.now l.c-index c.digit_of.result (l.n * a.base + c.digit_of.result) c.min-n.result (omega arith) c.digit_of.ensures.0 refl
          (c.min-n.ensures ∙ ap (λ (x : ℕ). min (l.n * a.base + x) a.most) c.from.ensures)
          ∙ l.invariant.1,
    )

pub returns : goal.returns
returns c = let l = c.loop-c in
    let a = c.args in (sym (number_end a.base a.most l.n a.w.now l.c-index (omega arith)) ∙ l.invariant.1, l.invariant.0)
