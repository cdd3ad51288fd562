use Rattle.std.proofs.Common.{sym, refl, ap, ◌∙◌, arith}
use lib.Ieee.{Float, binary64, add}
use Rattle.bursts.proofs.SearchLaws.{first-found, first_none, search_start, search-end, search_none, search-found, search_short, search-early}
use Rattle.bursts.proofs.search_bursts.Goals.{then-from-first+else-is_long, else-from-first}
use Rattle.bursts.proofs.search_bursts.Goals as goal

pub loop-i-init : goal.loop-i-init
loop-i-init c =
    let a = c.args in (
      omega arith,
      search_start a.dbm.now a.rate a.options a.floor a.from _ c.gap_samples-gap.result a.at
          (ap (λ (x : Float). add binary64 x a.options.above_db) c.f32_to_f64_with_nan.ensures) c.gap_samples-gap.ensures,
    )

pub returns-in_err-first : goal.returns-in_err-first
returns-in_err-first c =
    let a = c.args in
    rw c.from_residual.ensures
    (search_none a.dbm.now a.rate a.options a.floor a.from _ _ c.loop-i.i _ c.loop-i.invariant.1 _
    (first_none _ a.dbm.now c.loop-i.i c.loop-i.invariant.0 (sym c.in_err-first.ensures)) refl)

pub returns-then-is_long : goal.returns-then-is_long
returns-then-is_long c =
    let l = c.last_loud-last in
    let a = c.args in
    let f = first-found _ a.dbm.now c.loop-i.i c.loop-i.invariant.0 c.in_ok-first.field-0 (sym c.in_ok-first.ensures) in
    search-found a.dbm.now a.rate a.options a.floor a.from _ _ c.loop-i.i _ c.loop-i.invariant.1 _ f.0 f.1 l.result l.ensures c.burst_of.result
    c.if-from-first.true (sym c.is_long.ensures ∙ c.if-is_long.true) c.burst_of.ensures

pub loop-i-preserved : goal.loop-i-preserved
loop-i-preserved c =
    let l = c.last_loud-last in
    let a = c.args in
    let f = first-found _ a.dbm.now c.loop-i.i c.loop-i.invariant.0 c.in_ok-first.field-0 (sym c.in_ok-first.ensures) in (
      omega (arith, l.ensures.inside),
      elim c.if-from-first.branch [
        | then-from-first+else-is_long w ↦ search_short a.dbm.now a.rate a.options a.floor a.from _ _ c.loop-i.i _ c.loop-i.invariant.1 _ f.0 f.1 l.result l.ensures (sym w.is_long.ensures ∙ w.if-is_long.false)
        | else-from-first w ↦ search-early a.dbm.now a.rate a.options a.floor a.from _ _ c.loop-i.i _ c.loop-i.invariant.1 _ f.0 f.1 l.result l.ensures w.if-from-first.false
      ],
    )

pub returns : goal.returns
returns c =
    let a = c.args in
    search-end a.dbm.now a.rate a.options a.floor a.from _ _ c.loop-i.i _ c.loop-i.invariant.1 (omega arith)
