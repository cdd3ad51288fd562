use Rattle.std.proofs.Common.{sym, ◌∙◌}
use Rattle.rates.proofs.Rates.{win_is, half_is}
use Rattle.dips.proofs.DipLaws.{half_room}
use Rattle.dips.proofs.Windows.new.Goals as goal

pub returns : goal.returns
returns c =
    let r = c.args.rate in (
      c.rounded.ensures ∙ sym (win_is r c.requires.0 c.requires.1),
      c.rounded-2.ensures ∙ sym (half_is r c.requires.0 c.requires.1),
      half_room r c.requires.0 c.requires.1 _ c.rounded-2.ensures,
    )
