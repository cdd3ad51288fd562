use mathlib.Core.Path.{sym}
use lib.Seq.{length-take-le}
use borrow.Author.Rules.{rules}
use Rattle.replay_writer.proofs.write_into.Goals as goal

pub slice_bounds-write_uplink-end-2 : goal.slice_bounds-write_uplink-end-2
slice_bounds-write_uplink-end-2 g c = sym (length-take-le c.args.room _ (search rules))
