use Rattle.writer.proofs.Starts.{type_is}
use Rattle.writer.proofs.type_of.Goals as goal

pub returns : goal.returns
returns c = let a = c.args in type_is a.rank a.layout.class c.requires a.layout.known
