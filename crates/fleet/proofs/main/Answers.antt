-- The table holds what was read, and the bytes are counted up.
use Rattle.std.proofs.Common.{rules, [], arith}
use Rattle.fleet.proofs.main.Goals as goal

pub loop-bytes-init : goal.loop-bytes-init
loop-bytes-init c =
    let r = c.no_records-t in (
      search rules,
      omega (arith, r.ensures.0),
      record { messages = []; held = c.no_rows-table.ensures.1 r.result r.ensures.2 },
    )
