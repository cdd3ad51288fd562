use Rattle.std.proofs.Common.{refl}
use Rattle.frame.proofs.CopyLaws.{part_put}
use Rattle.frame.proofs.bytes.copy_into.Goals as goal

pub returns : goal.returns
returns c = let a = c.args in
    part_put a.at _ a.out.now c.copy_from_slice.new.self a.bytes.now c.copy_from_slice.ensures.after refl c.requires
