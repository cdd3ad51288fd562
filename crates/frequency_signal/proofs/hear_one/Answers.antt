use Rattle.std.proofs.Common.{◌≡◌, true, false}
use lib.Ieee.{binary64, lt, add, of_bits, of_int, round}
use Rattle.frequency_signal.specs.Heard.{above_db, known, loud, soft, hear}
use Rattle.frequency_signal.proofs.hear_one.Goals as goal

pub returns-then-v-f : goal.returns-then-v-f
unfolding hear loud of_bits of_int round
returns-then-v-f c =
    let e : c.unwrap_or-f.result ≡ known c.args.s.floor c.args.x = cc in
    let t : lt (add binary64 (known c.args.s.floor c.args.x) above_db) c.args.x ≡ true = cc c.if-v-f.true in
    rw t cc

pub returns : goal.returns
unfolding hear soft of_bits of_int round
returns c =
    let e : c.unwrap_or-f.result ≡ known c.args.s.floor c.args.x = cc in
    let t : lt (add binary64 (known c.args.s.floor c.args.x) above_db) c.args.x ≡ false = cc c.if-v-f.false in
    rw t cc
