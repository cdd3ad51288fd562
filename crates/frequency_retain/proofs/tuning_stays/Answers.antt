use Rattle.std.proofs.Common.{◌+◌, length, refl, sym, ap, ◌∙◌, arith, eq-eqb, ne_eqb, ℕ, ◌≤◌, ◌^◌, subst}
use Rattle.frequency_lists.specs.declared.Tuning.{Tuning}
use Rattle.frequency_lists.proofs.Gather.{map_at}
use Rattle.frequency_signal.specs.Seconds.{kept}
use Rattle.frequency_retain.proofs.tuning_stays.Goals as goal

pub returns-then-i-tunings : goal.returns-then-i-tunings
returns-then-i-tunings c = rw (eq-eqb (c.args.i + 1) (length c.args.tunings.now) c.if-i-tunings.true) refl

pub is_kept-requires : goal.is_kept-requires
is_kept-requires c =
    let m = map_at (λ (u : Tuning). u.at) c.args.tunings.now (c.args.i + 1) _ 0 (omega arith) in
    (subst (λ (z : ℕ). z ≤ 2 ^ 41) m (c.requires.1 (omega arith)))

pub returns : goal.returns
returns c =
    rw (ne_eqb (c.args.i + 1) (length c.args.tunings.now) c.if-i-tunings.false)
    (c.is_kept.ensures ∙ ap (kept c.args.stream.rate c.args.stream.n) (sym (map_at (λ (u : Tuning). u.at) c.args.tunings.now (c.args.i + 1) _ 0 (omega arith))))
