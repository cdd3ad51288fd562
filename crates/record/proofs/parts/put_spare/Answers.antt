use Rattle.std.proofs.Common.{ℕ, ◌≡◌, ◌+◌, ◌-◌, ap, ◌∙◌, length, take, drop, arith}
use lib.ListN.{length-replicate}
use Rattle.record.specs.Record.{spare}
use Rattle.frame.proofs.CopyLaws.{part_put, part_length}
use Rattle.record.proofs.parts.put_spare.Goals as goal

pub returns : goal.returns
returns c = let a = c.args in
    let n : a.at + a.n - a.at ≡ a.n = omega arith in
    let part = drop a.at a.out.now in
    part_put a.at a.n a.out.now c.fill.new.self (spare a.n)
    (c.fill.ensures.after (λ y e. e) ∙ ap spare (ap (λ (k : ℕ). length (take k part)) n ∙ part_length a.out.now a.at a.n c.requires))
    (length-replicate {A = ℕ} a.n 0) c.requires
