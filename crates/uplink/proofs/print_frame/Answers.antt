use borrow.Author.Rules.{rules}
use mathlib.Core.Path.{sym}
use lib.Seq.{length-take-le}
use Rattle.uplink.proofs.print_frame.Goals as goal

pub slice_bounds-write_uplink-end : goal.slice_bounds-write_uplink-end
slice_bounds-write_uplink-end g c = sym (length-take-le c.args.f.payload_len _ (search rules))

pub slice_bounds-write_uplink-end-then-m-auth : goal.slice_bounds-write_uplink-end-then-m-auth
slice_bounds-write_uplink-end-then-m-auth g c = sym (length-take-le c.args.f.auth_len _ (search rules))
