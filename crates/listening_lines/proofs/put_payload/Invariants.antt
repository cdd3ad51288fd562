use Prim.Native.Nat.{◌+◌, ◌*◌}
use mathlib.Core.Path.{◌≡◌}
use mathlib.Core.List.{◌++◌}
use lib.ListN.{length, take}
use Rattle.listening_lines.specs.Text.{hex_bytes}
use Rattle.record.specs.Readers.{payload_of}
use Rattle.listening_lines.proofs.put_payload.Given as goal

abbrev pub invariant-loop-b : goal.invariant-loop-b
invariant-loop-b l = (l.line ≡ l.initial.line ++ hex_bytes (take l.b-index (payload_of l.event.bytes.now))) × (length l.line ≡ length l.initial.line + 2 * l.b-index)
