use Rattle.std.proofs.Common.{ℕ, true, cond, not, eqb, ap, ◌∙◌}
use lib.ListN.{take}
use lib.Seq.{length-take-le}
use Rattle.frequency_lists.specs.Lists.{freqs, last_or}
use Rattle.frequency.specs.Order.{due_of}
use Rattle.frequency.proofs.is_due.Goals as goal

pub returns : goal.returns
unfolding due_of
returns c =
    let s = c.args.t.now in
    let ts = c.args.tunings.now in
    c.is_due.ensures ∙ ap (λ (n : ℕ). cond (eqb n 0) true (not (eqb c.args.hz (last_or s.base_freq (freqs (take s.tunings ts)))))) (length-take-le s.tunings ts c.requires)
