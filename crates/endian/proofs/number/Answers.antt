use Rattle.std.proofs.Common.{ℕ, ◌+◌, ◌-◌, ◌*◌, get_or, ap, ◌∙◌, arith}
use Rattle.endian.proofs.Numbers.{get-turn, get-room, get_start, get_end}
use Rattle.endian.proofs.number.Goals as goal

pub loop-i-init : goal.loop-i-init
loop-i-init c = get_start c.args.k c.args.s.now c.args.at

pub overflow_mul-n : goal.overflow_mul-n
overflow_mul-n c =
    let l = c.loop-i in
    record { fits = omega (arith, l.invariant, get-room c.args.k c.args.s.now c.args.at l.i (omega arith) (omega arith) c.requires.1 (λ j. (c.type_inv.s j).fits)) }

pub overflow_add-n : goal.overflow_add-n
overflow_add-n c =
    let l = c.loop-i in
    record { fits = omega (arith, l.invariant, get-room c.args.k c.args.s.now c.args.at l.i (omega arith) (omega arith) c.requires.1 (λ j. (c.type_inv.s j).fits), c.from.ensures, (c.type_inv.s (c.args.at + (l.i - 1))).fits) }

pub loop-i-preserved : goal.loop-i-preserved
loop-i-preserved c =
    let l = c.loop-i in
    let a = c.args in
    ap (λ (b : ℕ). l.n * 256 + b) c.from.ensures
    ∙ ap (λ (n : ℕ). n * 256 + get_or a.s.now (a.at + (l.i - 1)) 0) l.invariant
    ∙ get-turn a.k a.s.now a.at l.i (omega arith) (omega arith) c.requires.0

pub returns : goal.returns
returns c =
    let l = c.loop-i in
    let a = c.args in
    l.invariant ∙ get_end a.k a.s.now a.at l.i (omega arith)
