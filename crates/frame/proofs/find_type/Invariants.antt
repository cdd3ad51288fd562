-- The invariant: the starts left have the answer.
use Rattle.std.proofs.Common.{◌≡◌, ◌-◌, map}
use Rattle.coding.specs.Bits.{odd}
use Rattle.frame.specs.Types.{type_from, type_in}
use Rattle.frame.proofs.find_type.Given as goal

abbrev pub invariant-loop-start : goal.invariant-loop-start
invariant-loop-start l = type_from (23 - l.start) l.start (map odd l.bits) ≡ type_in (map odd l.bits)
