use Rattle.std.proofs.Common.{Some}
use mathlib.Core.Path.{sym, ap, ◌∙◌}
use native.Mathlib.Omega.{arith}
use Rattle.frame.proofs.KindLaws.{type_at, kind_here, kind-later, no_kind}
use Rattle.frame.proofs.kinds.find_kind.Goals as goal

pub returns-then-t-ft : goal.returns-then-t-ft
returns-then-t-ft c = let i = c.loop-i.i in
    ap Some c.kind_at.ensures ∙ kind_here c.args.ft i (omega arith) (type_at i (omega arith) ∙ c.if-t-ft.true) ∙ c.loop-i.invariant

pub loop-i-preserved : goal.loop-i-preserved
loop-i-preserved c = let i = c.loop-i.i in
    kind-later c.args.ft i (omega arith) (λ e. c.if-t-ft.false (sym (type_at i (omega arith)) ∙ e)) ∙ c.loop-i.invariant

pub returns : goal.returns
returns c = no_kind c.args.ft c.loop-i.i (omega arith) ∙ c.loop-i.invariant
