use mathlib.Core.Path.{◌≡◌}
use mir.Syntax.{w32}
use mir.Val.{of_z, to_z}
use mir.ValLaws.{to_z-of_z}
use borrow.Author.Rules.{sfits_of}
use Rattle.receiver_message.proofs.SpanLaws.{opened_is}
use Rattle.receiver_message.proofs.opened.Goals as goal

pub returns : goal.returns
returns c = let a = c.args in
    let z : to_z w32 (of_z w32 a.r.clock_error_ppm) ≡ a.r.clock_error_ppm = to_z-of_z w32 a.r.clock_error_ppm (sfits_of c.well_formed.1.0.1.1.0.1) in
    opened_is a.f a.r c.end_after-known.result c.span_of-first.result (to_z w32 (of_z w32 a.r.clock_error_ppm)) c.end_after-known.ensures c.span_of-first.ensures z
