use Rattle.std.proofs.Common.{ℕ, subst, arith}
use Rattle.frequency_lists.specs.Lists.{ats}
use Rattle.frequency_retain.proofs.Retained.{front_goes, leads_of}
use Rattle.frequency_retain.specs.Retain.{Leads}
use Rattle.frequency_signal.proofs.Indices.{kept_from}
use Rattle.frequency_signal.specs.Seconds.{oldest_of}
use Rattle.frequency_retain.proofs.retain_readings.Goals as goal

pub returns : goal.returns
returns c =
    let a = c.args in
    let o = c.oldest-oldest in
    let l = c.leading-lead in
    let e = o.ensures in
    front_goes a.stream.rate a.stream.n (oldest_of a.stream.rate a.stream.n) a.readings.now c.requires (λ b h. kept_from a.stream.rate a.stream.right a.stream.n b a.stream.short h) l.result
    (subst (λ (z : ℕ). Leads z l.result (ats a.readings.now)) e (leads_of o.result l.result c.spread.result a.readings.now l.ensures.0 l.ensures.1 c.spread.ensures (omega (arith, e, c.if-spread-ge-FAR.false))))
    _ _ c.forget.ensures.count c.forget.ensures.list
