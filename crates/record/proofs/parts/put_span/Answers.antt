use mathlib.Core.Path.{sym, ap, ◌∙◌}
use lib.Seq.{sets}
use Rattle.record.specs.Record.{time_bytes}
use Rattle.record.proofs.PartLaws.{span_none, span_some}
use Rattle.record.proofs.parts.put_span.Goals as goal

pub returns-then-not-is_there : goal.returns-then-not-is_there
returns-then-not-is_there c = let a = c.args in
    c.put_spare.ensures ∙ ap (sets a.out.now a.at) (span_none a.s (sym c.is_there.ensures ∙ c.if-not-is_there.true))

pub returns : goal.returns
unfolding time_bytes
returns c = let a = c.args in
    c.put_two.ensures ∙ ap (sets a.out.now a.at) (span_some a.s (sym c.is_there.ensures ∙ c.if-not-is_there.false))
