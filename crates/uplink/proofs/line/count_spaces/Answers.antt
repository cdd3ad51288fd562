use Rattle.std.proofs.Common.{rules, ◌≡◌, sym, ◌∙◌}
use Rattle.std.specs.List.{count_by}
use lib.Dec.{eqb}
use Rattle.uplink.specs.Line.{space}
use Rattle.uplink.proofs.Words.{spaces_counted}
use Rattle.uplink.proofs.line.count_spaces.Goals as goal

pub returns : goal.returns
returns c =
    let e : c.count.result ≡ count_by (λ x. eqb x space) c.args.line.now = search rules in
    e ∙ sym (spaces_counted c.args.line.now)
