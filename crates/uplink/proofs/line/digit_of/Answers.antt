use borrow.Author.Rules.{rules}
use native.Mathlib.Omega.{arith}
use Rattle.uplink.proofs.Words.{from_0, from_a, from_A, is_decimal_lem, is_lower, is_upper, is_other}
use Rattle.uplink.proofs.line.digit_of.Goals as goal

pub overflow_sub-result : goal.overflow_sub-result
overflow_sub-result c = from_0 c.args.c c.if-c.true

pub returns-then-c : goal.returns-then-c
returns-then-c c = is_decimal_lem c.args.c c.if-c.true

pub overflow_sub-result-then-c-2 : goal.overflow_sub-result-then-c-2
overflow_sub-result-then-c-2 c = omega (arith, from_a c.args.c c.if-c-2.true)

pub returns-then-c-2 : goal.returns-then-c-2
returns-then-c-2 c = is_lower c.args.c c.if-c.false c.if-c-2.true

pub overflow_sub-result-then-c-3 : goal.overflow_sub-result-then-c-3
overflow_sub-result-then-c-3 c = from_A c.args.c c.if-c-3.true

pub returns-then-c-3 : goal.returns-then-c-3
returns-then-c-3 c = is_upper c.args.c c.if-c.false c.if-c-2.false c.if-c-3.true

pub returns : goal.returns
returns c = (is_other c.args.c c.if-c.false c.if-c-2.false c.if-c-3.false, search rules)
